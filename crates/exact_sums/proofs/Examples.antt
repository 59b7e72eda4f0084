-- The example, by one computation of the definitions.
use mathlib.Core.Path.{refl}
use Rattle.exact_sums.specs.Exact.{fits, exact_of}
use Rattle.exact_sums.specs.Examples.{SumHolds}

pub sum_holds : SumHolds
unfolding fits exact_of
sum_holds = refl
