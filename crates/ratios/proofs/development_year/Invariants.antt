-- A walk down the accident years of one development year: the sums grow, and each outstanding moves on.
use Rattle.ratios.specs.Ratios.{sums_of}
use Rattle.ratios.proofs.DevelopmentYear.{Summed}
use Rattle.ratios.proofs.development_year.Given as goal

abbrev pub invariant-loop-r : goal.invariant-loop-r
invariant-loop-r l =
    Summed l.n l.k l.triangle.payments.now l.triangle.adjustments.now l.triangle.weights.now l.initial.outstandings
    (sums_of l.sums) l.outstandings l.weight_at l.amount_at l.r
