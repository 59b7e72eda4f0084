-- After so many years the outstanding is that of the last of them, where the row is within the limits: the contract at that year.
use Rattle.completed.specs.Completed.{outstandings_of, OutstandingAt}
use Rattle.completed.proofs.outstanding.ObservedLists.outstanding_at.Given as goal

abbrev pub invariant-loop-before : goal.invariant-loop-before
invariant-loop-before l = OutstandingAt (outstandings_of l.cell.n l.self) l.cell.accident_year l.before l.outstanding
