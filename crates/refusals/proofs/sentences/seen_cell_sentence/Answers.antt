-- The numbers are the cell's, or zeros where none was asked for.
use native.Mathlib.Omega.{arith}
use Rattle.integers.proofs.MachineArithmetic.{held}
use Rattle.refusals.specs.Sentences.{seen_cell_sentence}
use Rattle.refusals.proofs.sentences.seen_cell_sentence.Goals as goal

pub returns : goal.returns
unfolding seen_cell_sentence
returns c =
    let place = c.unwrap_or-place.result in
    rw (← c.unwrap_or-place.ensures) (simp (held place.accident_year (omega arith), held place.development_year (omega arith)) at c.filled.ensures)
