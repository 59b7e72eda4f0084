-- By whether the outstanding is an opening.
use native.Mathlib.Omega.{arith}
use mir.Syntax.{w64}
use mir.Facts.{to_z-of_z}
use Rattle.integers.proofs.MachineArithmetic.{held}
use Rattle.refusals.specs.Sentences.{opening_sentence, observed_sentence}
use Rattle.refusals.proofs.lines.observed_sentence.Goals as goal

pub returns-then-found : goal.returns-then-found
unfolding opening_sentence observed_sentence
returns-then-found c =
    let number = held c.args.found.outstanding (omega arith) in
    rw c.if-found.true (simp (to_z-of_z {w = w64} c.ranges.i, to_z-of_z {w = w64} c.ranges.k, number) at c.filled.ensures)
