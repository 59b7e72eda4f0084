-- Counts as numbers.
use Rattle.std.specs.Prelude.{ℕ, ◌-◌, ◌^◌, min, ℤ, pos}

-- A count as a signed number of 64 bits; no text and no list is as long as the greatest.
abbrev pub as_number : ℕ → ℤ
as_number count = pos (min count (2 ^ 63 - 1))
