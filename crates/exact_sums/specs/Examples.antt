-- A worked example: the first sum that 64 bits do not hold.
-- The statement is proved in proofs/Examples.antt by computing it.
use Rattle.std.specs.Prelude.{◌≡◌, pos, ◌+ℤ◌, None}
use Rattle.exact_sums.specs.Exact.{greatest, exact_of}

abbrev pub SumHolds : Type 0
SumHolds = exact_of (greatest +ℤ pos 1) ≡ None
