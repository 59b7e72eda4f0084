-- What is written so far are the last groups, and what is left makes the others.
use Rattle.written_figures.proofs.GroupedDigits.{WrittenSoFar}
use Rattle.written_figures.proofs.writing.Written.with_groups_before.Given as goal

abbrev pub invariant-loop-left : goal.invariant-loop-left
invariant-loop-left l = WrittenSoFar l.number l.left l.initial.so_far l.so_far

abbrev pub decreases-loop-left : goal.decreases-loop-left
decreases-loop-left l = l.left
