-- A scan of the exposures.
use Rattle.std.proofs.Common.{◌-◌}
use Rattle.method.proofs.FirstRefusal.{PassedSoFar}
use Rattle.triangle.specs.Reading.{exposure_of_year}
use Rattle.triangle.proofs.reading.question_8.Given as goal

abbrev pub invariant-loop-k : goal.invariant-loop-k
invariant-loop-k l = PassedSoFar (l.n - 1) (exposure_of_year l.ratios) (l.k - 1)
