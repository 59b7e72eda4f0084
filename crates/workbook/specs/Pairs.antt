-- Ticket 1 of document 02: "Each reserve goes back as a pair of floats, whole units and remaining millionths (0 to 999,999), both exact".
use Rattle.std.specs.Prelude.{List, [], ◌∷◌, ℤ, ◌-ℤ◌, ◌*ℤ◌, Float}
use Rattle.integers.specs.HalfUp.{floor}
use Rattle.floats.specs.WholeNumbers.{float_of}
use Rattle.method.specs.Limits.{one_unit}

-- of an amount in millionths: "The pair counts units downward for a negative reserve, so the millionths are never negative."
abbrev pub whole_units : ℤ → ℤ
whole_units amount = floor amount one_unit

abbrev pub remaining_millionths : ℤ → ℤ
remaining_millionths amount = amount -ℤ whole_units amount *ℤ one_unit

-- the pairs of a list of amounts, in its order
unfoldable pub pairs : List ℤ → List Float
pairs [] = []
pairs (amount ∷ amounts) = float_of (whole_units amount) ∷ float_of (remaining_millionths amount) ∷ pairs amounts
