-- The table of examples, by one computation of the definitions.
use Rattle.std.proofs.Common.{refl}
use lib.Ieee.{of_bits}
use Rattle.floats.specs.WholeNumbers.{whole_number}
use Rattle.floats.specs.Examples.{ExamplesHold}

pub examples_hold : ExamplesHold
unfolding of_bits whole_number
examples_hold = refl
