-- A walk down the accident years: each outstanding goes to its place.
use Rattle.ratios.proofs.FirstYear.{Placed}
use Rattle.ratios.proofs.first_outstandings.Given as goal

abbrev pub invariant-loop-r : goal.invariant-loop-r
invariant-loop-r l = Placed l.n l.triangle.payments.now l.triangle.adjustments.now l.triangle.openings.now l.outstandings l.r
