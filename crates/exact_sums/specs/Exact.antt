-- Whole numbers of 64 bits, and those that have more.
use Rattle.std.specs.Prelude.{Bool, ◌&&◌, cond, ◌-◌, ◌^◌, ℤ, pos, neg_ℤ, Option, Some, None}
use Rattle.std.specs.Int.Signed.{le_z}

-- The least and the greatest signed number of 64 bits.
abbrev pub least : ℤ
least = neg_ℤ (pos (2 ^ 63))

abbrev pub greatest : ℤ
greatest = pos (2 ^ 63 - 1)

-- Whether a signed number of 64 bits holds z.
unfoldable pub fits : ℤ → Bool
fits z = le_z least z && le_z z greatest

-- z, where 64 bits hold it.
unfoldable pub exact_of : ℤ → Option ℤ
exact_of z = cond (fits z) (Some z) None
