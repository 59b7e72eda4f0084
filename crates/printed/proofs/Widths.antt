-- The widest of several, one more at a time.
use mathlib.Core.Path.{◌≡◌, refl, ap}
use Prim.Native.Nat.{ℕ, zero, suc, ◌+◌, ◌-◌, ◌≤◌, ◌<◌, max}
use native.Mathlib.Numerals.{add-one}
use native.Mathlib.Decide.{dec_lt}
use native.Mathlib.Omega.{arith}
use Rattle.printed.specs.Entries.{widest_from}

-- the widths from a place on, up to an end
module _ (width : ℕ → ℕ) (column place end : ℕ) where
  pub one_width_more : {wider : ℕ} → place < end → wider ≡ max column (width place)
      → widest_from width wider (place + 1) (end - (place + 1)) ≡ widest_from width column place (end - place)
  unfolding widest_from
  one_width_more h is =
      let more : end - place ≡ suc (end - (place + 1)) = omega arith in
      rw (more, is, add-one place) refl

  pub no_width_more : end ≤ place → column ≡ widest_from width column place (end - place)
  unfolding widest_from
  no_width_more h =
      let none : end - place ≡ 0 = omega arith in
      rw none

-- ---- What the widest is at least, and at most

module _ (width : ℕ → ℕ) where
  pub column_within_widest : (column place left : ℕ) → column ≤ widest_from width column place left
  unfolding widest_from
  column_within_widest column place zero = omega arith
  column_within_widest column place (suc left) = omega (arith, column_within_widest (max column (width place)) (suc place) left)

  pub width_within_widest : (column place left at : ℕ) → place ≤ at → at < place + left → width at ≤ widest_from width column place left
  unfolding widest_from
  width_within_widest column place zero at from to = absurd (omega arith)
  width_within_widest column place (suc left) at from to =
      go (dec_lt place at) (λ later. width_within_widest (max column (width place)) (suc place) left at later (omega arith))
    where
      go : Dec (place < at) → (place < at → width at ≤ widest_from width (max column (width place)) (suc place) left)
          → width at ≤ widest_from width (max column (width place)) (suc place) left
      go (yes later) rest = rest later
      go (no here) rest =
          let is : at ≡ place = omega arith in
          omega (arith, ap width is, column_within_widest (max column (width place)) (suc place) left)

  pub widest_within : (most : ℕ) → ((at : ℕ) → width at ≤ most) → (column place left : ℕ) → column ≤ most → widest_from width column place left ≤ most
  unfolding widest_from
  widest_within most each column place zero h = h
  widest_within most each column place (suc left) h = widest_within most each (max column (width place)) (suc place) left (omega (arith, each place))
