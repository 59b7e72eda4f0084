-- What a signed number of 64 bits holds, and the value that is handed out where one holds it.
use mathlib.Core.Path.{◌≡◌, ap}
use mathlib.Core.Bool.{true, false}
use Prim.Native.Nat.{ℕ, ◌-◌, ◌^◌, ◌≤◌, ◌<◌}
use native.Mathlib.Omega.{arith}
use borrow.Author.Tests.{le-leb, lt-leb}
use lib.IntN.{ℤ, pos, negsuc}
use mir.Syntax.{w64}
use mir.Val.{SFits}
use Rattle.std.specs.Prelude.{Option, Some, None}
use Rattle.std.specs.Option.{SomeIff}
use Rattle.exact_sums.specs.Exact.{fits, exact_of}

-- ---- The definition of `fits`, by what the machine asks

pub fits_yes : (z : ℤ) → SFits w64 z → fits z ≡ true
unfolding fits
fits_yes (pos n) h = le-leb n (2 ^ 63 - 1) (omega (arith, h.sfits))
fits_yes (negsuc n) h = rw (le-leb n (2 ^ 63 - 1) (omega (arith, h.sfits)))

-- where a size up to the greatest would do
no_size : (n : ℕ) → (n ≤ 2 ^ 63 - 1 → ⊥) → 2 ^ 63 - 1 < n
no_size n h = omega (arith, h)

pub fits_no : (z : ℤ) → (SFits w64 z → ⊥) → fits z ≡ false
unfolding fits
fits_no (pos n) h = lt-leb n (2 ^ 63 - 1) (no_size n (λ l. h (record { sfits = omega arith })))
fits_no (negsuc n) h = rw (lt-leb n (2 ^ 63 - 1) (no_size n (λ l. h (record { sfits = omega arith }))))

-- ---- The library's checked sums

pub exact_by : (o : Option ℤ) (z : ℤ) → SomeIff o (SFits w64 z) z → o ≡ exact_of z
unfolding exact_of
exact_by (Some x) z h = rw (fits_yes z h.0) (ap Some h.1)
exact_by None z h = rw (fits_no z h)
