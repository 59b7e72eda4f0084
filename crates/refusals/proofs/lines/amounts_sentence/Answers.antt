-- By which of the two is wrong.
use native.Mathlib.Omega.{arith}
use mir.Syntax.{w64}
use mir.Facts.{to_z-of_z}
use Rattle.integers.proofs.MachineArithmetic.{held}
use Rattle.refusals.specs.Sentences.{amounts_sentence}
use Rattle.refusals.proofs.lines.amounts_sentence.Goals as goal

pub returns-then-found : goal.returns-then-found
unfolding amounts_sentence
returns-then-found c =
    let number = held c.args.found.adjustment (omega arith) in
    rw c.if-found.true (simp (to_z-of_z {w = w64} c.ranges.i, to_z-of_z {w = w64} c.ranges.k, number) at c.amount_sentence.ensures)

pub returns : goal.returns
unfolding amounts_sentence
returns c =
    let number = held c.args.found.payment (omega arith) in
    rw c.if-found.false (simp (to_z-of_z {w = w64} c.ranges.i, to_z-of_z {w = w64} c.ranges.k, number) at c.amount_sentence-2.ensures)
