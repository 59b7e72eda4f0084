-- The table of examples, by one computation of the definitions.
use mathlib.Core.Path.{refl}
use Rattle.written_figures.specs.Writing.{first_group, grouped_in, grouped}
use Rattle.written_figures.specs.Examples.{TextsHold}

pub texts_hold : TextsHold
unfolding first_group grouped_in grouped
texts_hold = refl
