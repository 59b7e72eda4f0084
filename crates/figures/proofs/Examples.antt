-- The table of examples, by one computation of the definitions.
use mathlib.Core.Path.{refl}
use Rattle.exact_sums.specs.Exact.{fits}
use Rattle.figures.specs.Reading.{value_after, whole_of, number_of, figure_of}
use Rattle.figures.specs.Examples.{CellsHold}

pub cells_hold : CellsHold
unfolding fits value_after whole_of number_of figure_of
cells_hold = refl
