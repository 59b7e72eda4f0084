-- One development year after another.
use Rattle.prepared_years.proofs.PreparedYears.{PreparedTo}
use Rattle.prepared_years.proofs.years.prepare_years.Given as goal

abbrev pub invariant-loop-k : goal.invariant-loop-k
invariant-loop-k l = PreparedTo l.n l.ratios l.initial.years l.years l.k
