-- How `whole_number` tells the whole number that a float is.
use Rattle.std.specs.Prelude.{ℕ, Bool, true, false, cond, ◌&&◌, ℤ, pos, nat_le, unsigned_abs, Float, Result, Ok, Err}
use Rattle.std.specs.Float.{fin}
use Rattle.std.specs.Float.Ieee.{le}
use Rattle.floats.specs.declared.NotExact.{NotExact}
use Rattle.floats.specs.declared.NotExact.TheVariants.{Larger, NotWhole}
use Rattle.floats.specs.WholeNumbers.{WholeNumber, the, none}

-- 2^53: every whole number up to this size is a float, and every finite float beyond it is whole
abbrev pub most_exact : ℕ
most_exact = 9007199254740992

abbrev pub told : WholeNumber → Result ℤ NotExact
told (the z) = cond (nat_le (unsigned_abs z) most_exact) (Ok z) (Err Larger)
told none = Err NotWhole

-- from -2^k to 2^k, as floats are compared
abbrev pub within : ℕ → Float → Bool
within k x = le (fin true 1 (pos k)) x && le x (fin false 1 (pos k))

abbrev pub exact_range : Float → Bool
exact_range = within 53

-- with 3 × 2^51 added these are from 2^52 to 2^53
abbrev pub small : Float → Bool
small = within 51
