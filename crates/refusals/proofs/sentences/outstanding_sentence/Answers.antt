-- By the sign of the outstanding.
use mathlib.Core.Path.{ap, ◌∙◌}
use mir.Syntax.{w64}
use mir.Facts.{to_z-of_z}
use Rattle.integers.proofs.MachineArithmetic.{held}
use Rattle.completed.specs.Completed.{number_or_0}
use Rattle.refusals.specs.Sentences.{outstanding_sentence}
use Rattle.refusals.proofs.sentences.outstanding_sentence.Goals as goal

pub returns-then-x-lt0 : goal.returns-then-x-lt0
unfolding outstanding_sentence
returns-then-x-lt0 c =
    let below = simp (to_z-of_z {w = w64} c.ranges.x) at c.if-x-lt0.true in
    let size = c.unwrap_or-size.ensures ∙ ap number_or_0 (simp (to_z-of_z {w = w64} c.ranges.x) at c.difference.ensures) in
    rw (below, ← size) (simp (to_z-of_z {w = w64} c.ranges.i, to_z-of_z {w = w64} c.ranges.k, to_z-of_z {w = w64} c.ranges.x, held c.unwrap_or-size.result c.unwrap_or-size.type_inv) at c.filled.ensures)

pub returns : goal.returns
unfolding outstanding_sentence
returns c =
    let not_below = simp (to_z-of_z {w = w64} c.ranges.x) at c.if-x-lt0.false in
    rw not_below (simp (to_z-of_z {w = w64} c.ranges.i, to_z-of_z {w = w64} c.ranges.k, to_z-of_z {w = w64} c.ranges.x) at c.filled-2.ensures)
