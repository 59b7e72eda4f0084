-- The place so far and the length of what stands before the comment from there on are the place sought; each turn leaves one byte less.
use mathlib.Core.Path.{◌≡◌}
use Prim.Native.Nat.{◌+◌}
use lib.ListN.{length, drop}
use Rattle.text.specs.Lines.{before_comment, without_comment}
use Rattle.text.proofs.lines.without_comment.Given as goal

abbrev pub invariant-loop-at : goal.invariant-loop-at
invariant-loop-at l = l.at + length (before_comment l.may_begin (drop l.at l.line)) ≡ length (without_comment l.line)
