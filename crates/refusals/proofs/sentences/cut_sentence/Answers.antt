-- The numbers are those of the definition, and one follows from another.
use mathlib.Core.Path.{ap, ◌∙◌}
use mir.Syntax.{w64}
use mir.Facts.{to_z-of_z}
use Rattle.integers.proofs.MachineArithmetic.{held}
use Rattle.completed.specs.Completed.{number_or_0}
use Rattle.refusals.specs.Sentences.{cut_sentence}
use Rattle.refusals.proofs.sentences.cut_sentence.Goals as goal

pub returns : goal.returns
unfolding cut_sentence
returns c =
    let most = c.unwrap_or-most.ensures ∙ ap number_or_0 (simp (to_z-of_z {w = w64} c.ranges.years) at c.difference.ensures) in
    rw most at (simp (to_z-of_z {w = w64} c.ranges.cut, held c.unwrap_or-most.result c.unwrap_or-most.type_inv) at c.filled.ensures)
