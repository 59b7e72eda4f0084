-- An amount as the code's pair.
use Rattle.std.specs.Prelude.{ℤ}
use Rattle.floats.specs.WholeNumbers.{float_of}
use Rattle.workbook.specs.Pairs.{whole_units, remaining_millionths}
use Rattle.reserve_pairs.specs.declared.Pair.{Pair}

abbrev pub pair_of : ℤ → Pair
pair_of amount = record { units = float_of (whole_units amount); millionths = float_of (remaining_millionths amount) }
