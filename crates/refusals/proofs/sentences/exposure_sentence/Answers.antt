-- The numbers are those of the definition, and one follows from another.
use mathlib.Core.Path.{ap, ◌∙◌}
use mir.Syntax.{w64}
use mir.Facts.{to_z-of_z}
use Rattle.integers.proofs.MachineArithmetic.{held}
use Rattle.completed.specs.Completed.{number_or_0}
use Rattle.refusals.specs.Sentences.{exposure_sentence}
use Rattle.refusals.proofs.sentences.exposure_sentence.Goals as goal

pub returns : goal.returns
unfolding exposure_sentence
returns c =
    let next = c.unwrap_or-next.ensures ∙ ap number_or_0 (simp (to_z-of_z {w = w64} c.ranges.k) at c.sum.ensures) in
    rw next at (simp (to_z-of_z {w = w64} c.ranges.k, held c.unwrap_or-next.result c.unwrap_or-next.type_inv) at c.filled.ensures)
