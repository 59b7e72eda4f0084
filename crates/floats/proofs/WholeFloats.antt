-- What is told of a float. From -2^53 to 2^53 its cut to an integer is exact, and the float of the cut equals it where it is whole.
-- Beyond that every finite float is whole, for it has no more than 53 digits.
use Rattle.std.proofs.Common.{◌≡◌, ℕ, zero, suc, ◌+◌, ◌-◌, ◌*◌, ◌/◌, ◌%◌, ◌^◌, ◌<◌, ◌≤◌, min, Bool, true, false, cond, ◌&&◌, T, eqb, ltb, leb, ◌⊎◌, ℤ, pos, negsuc, neg_ℤ, nat_abs, sym, refl, ap, ◌∙◌, subst, ap₂, inl, inr, true≢false, div-one, arith, lit<, le→leb, ltb→lt, lt→ltb, le-leb, leb-false, Ok, Err}
use mathlib.Core.Bool.{false≢true}
use native.Mathlib.Nat.{div-le_of_le-mul, mod-one}
use lib.Ieee.{Float, nan, inf, fin, binary64, up, down, lt, le, eq, to_signed, fits}
use lib.Ieee.Fits.{down_pos, and_l, and_r}
use lib.Ieee.Exact.{HasValue}
use borrow.Author.Tests.{lt-leb}
use Rattle.std.specs.Float.{float_is_finite}
use Rattle.floats.specs.declared.NotExact.TheVariants.{Larger, NotWhole}
use Rattle.floats.specs.WholeNumbers.{the, none, signed, whole_number, float_of}
use Rattle.floats.specs.Reading.{most_exact, told, exact_range}
use Rattle.floats.proofs.ExactFloats.{negative, float_value}
use Rattle.floats.proofs.Comparisons.{between_powers, by_size, equal_to_whole_part}

-- ---- Told of a whole number

pub told_in_range : (z : ℤ) → nat_abs z ≤ most_exact → told (the z) ≡ Ok z
told_in_range z h = ap (λ (b : Bool). cond b (Ok z) (Err Larger)) (le-leb (nat_abs z) most_exact h)

pub told_beyond_range : (z : ℤ) → most_exact < nat_abs z → told (the z) ≡ Err Larger
told_beyond_range z h = ap (λ (b : Bool). cond b (Ok z) (Err Larger)) (lt-leb (nat_abs z) most_exact h)

size_of_signed : (s : Bool) (n : ℕ) → nat_abs (signed s n) ≡ n
size_of_signed true zero = refl
size_of_signed true (suc n) = refl
size_of_signed false n = refl

-- 0 has no sign
sign_of_signed : (s : Bool) (n : ℕ) → (negative (signed s n) ≡ s) ⊎ (n ≡ 0)
sign_of_signed true zero = inr refl
sign_of_signed true (suc n) = inl refl
sign_of_signed false n = inl refl

-- ---- A float m × 2^e of at most 2^53 in size

uncapped : (a c : ℕ) → a ≤ c → min a c ≡ a
uncapped a c h = omega arith

signed_cut : (s : Bool) (m : ℕ) (e : ℤ) → m * up e / down e ≤ most_exact → to_signed 63 (fin s m e) ≡ signed s (m * up e / down e)
unfolding to_signed
signed_cut true m e h = ap (λ (n : ℕ). neg_ℤ (pos n)) (uncapped (m * up e / down e) (2 ^ 63) (omega arith))
signed_cut false m e h = ap pos (uncapped (m * up e / down e) (2 ^ 63 - 1) (omega arith))

module _ (s : Bool) (m : ℕ) (e : ℤ) (small : m * up e ≤ most_exact * down e) where
  abbrev x : Float
  x = fin s m e

  abbrev whole_part : ℕ
  whole_part = m * up e / down e

  small_part : whole_part ≤ most_exact
  small_part = div-le_of_le-mul (down e) (omega arith)

  pub cut_is : to_signed 63 x ≡ signed s whole_part
  cut_is = signed_cut s m e small_part

  pub small_cut : nat_abs (to_signed 63 x) ≤ most_exact
  small_cut = subst (λ (z : ℤ). nat_abs z ≤ most_exact) (sym cut_is) (subst (λ (n : ℕ). n ≤ most_exact) (sym (size_of_signed s whole_part)) small_part)

  pub equal_cut : eq (float_of (to_signed 63 x)) x ≡ eqb (m * up e % down e) 0
  equal_cut =
      let z = signed s whole_part in
      ap (λ (z : ℤ). eq (float_of z) x) cut_is
      ∙ equal_to_whole_part (float_of z) (negative z) s m e
      (subst (λ (n : ℕ). HasValue (float_of z) (negative z) n 1) (size_of_signed s whole_part) (float_value z (omega (arith, small_part, size_of_signed s whole_part))))
      (sign_of_signed s whole_part)

  -- `truncating_f64_to_i64` is for floats from -2^63 to below 2^63
  above_least : T (le (fin true 1 (pos 63)) x)
  above_least =
      and_l (le (fin true 1 (pos 63)) x) (le x (fin false 1 (pos 63)))
      (subst T (sym (between_powers 63 s m e)) (le→leb (m * up e) (1 * 2 ^ 63 * down e) (omega (arith, down_pos e))))

below_most : (s : Bool) (m : ℕ) (e : ℤ) → m * up e ≤ most_exact * down e → T (lt (fin s m e) (fin false 1 (pos 63)))
unfolding lt
below_most true m e h = lt→ltb 0 (m * up e * 1 + 1 * 2 ^ 63 * down e) (omega (arith, down_pos e))
below_most false m e h = lt→ltb (m * up e * 1) (1 * 2 ^ 63 * down e) (omega (arith, down_pos e))

-- it is its cut where the float of the cut equals it, and otherwise not whole
whole_by_its_cut : (s : Bool) (m : ℕ) (e : ℤ) → m * up e ≤ most_exact * down e
    → whole_number (fin s m e) ≡ cond (eq (float_of (to_signed 63 (fin s m e))) (fin s m e)) (the (to_signed 63 (fin s m e))) none
unfolding whole_number
whole_by_its_cut s m e small =
    sym
    (ap (λ (b : Bool). cond b (the (to_signed 63 (fin s m e))) none) (equal_cut s m e small)
    ∙ ap (λ (z : ℤ). cond (eqb (m * up e % down e) 0) (the z) none) (cut_is s m e small))

-- ---- A float in that range, as the code asks for it

module _ (x : Float) (h : exact_range x ≡ true) where
  pub cut_allowed : T (le (fin true 1 (pos 63)) x) × T (lt x (fin false 1 (pos 63)))
  cut_allowed = by_size 53 x h (λ x. T (le (fin true 1 (pos 63)) x) × T (lt x (fin false 1 (pos 63)))) (λ s m e small. (above_least s m e small, below_most s m e small))

  pub cut_exact : nat_abs (to_signed 63 x) ≤ most_exact
  cut_exact = by_size 53 x h (λ x. nat_abs (to_signed 63 x) ≤ most_exact) small_cut

  pub whole_by_cut : whole_number x ≡ cond (eq (float_of (to_signed 63 x)) x) (the (to_signed 63 x)) none
  whole_by_cut = by_size 53 x h (λ x. whole_number x ≡ cond (eq (float_of (to_signed 63 x)) x) (the (to_signed 63 x)) none) whole_by_its_cut

  pub told_by_cut : eq (float_of (to_signed 63 x)) x ≡ true → Ok (to_signed 63 x) ≡ told (whole_number x)
  told_by_cut same =
      sym (ap told (whole_by_cut ∙ ap (λ (b : Bool). cond b (the (to_signed 63 x)) none) same) ∙ told_in_range (to_signed 63 x) cut_exact)

  pub told_fraction : eq (float_of (to_signed 63 x)) x ≡ false → Err NotWhole ≡ told (whole_number x)
  told_fraction other = sym (ap told (whole_by_cut ∙ ap (λ (b : Bool). cond b (the (to_signed 63 x)) none) other))

-- ---- A float beyond that range, and one that is not finite

-- m has at most 53 digits
pub digits : (s : Bool) (m : ℕ) (e : ℤ) → T (fits binary64 (fin s m e)) → m < most_exact
unfolding fits
digits s zero e f = lit< tt
digits s (suc m) e f =
    ltb→lt (suc m) most_exact
    (and_r (eqb (suc m % 2) 1) (ltb (suc m) most_exact)
    (and_l (eqb (suc m % 2) 1 && ltb (suc m) most_exact) (leb (down e) (2 ^ 1074))
    (and_l (eqb (suc m % 2) 1 && ltb (suc m) most_exact && leb (down e) (2 ^ 1074)) (ltb (suc m * up e) (2 ^ 1024 * down e)) f)))

large_is_whole : (s : Bool) (m : ℕ) (e : ℤ) → m < most_exact → most_exact * down e < m * up e → told (whole_number (fin s m e)) ≡ Err Larger
unfolding whole_number
large_is_whole s m (pos k) short large =
    let n = m * 2 ^ k in
    ap₂ (λ (r q : ℕ). told (cond (eqb r 0) (the (signed s q)) none)) (mod-one n) (div-one n)
    ∙ told_beyond_range (signed s n) (omega (arith, size_of_signed s n))
large_is_whole s m (negsuc k) short large = absurd (let wrong : ⊥ = omega (arith, down_pos (negsuc k)) in wrong)

pub told_larger : (x : Float) → fits binary64 x ≡ true → float_is_finite x ≡ true → exact_range x ≡ false → Err Larger ≡ told (whole_number x)
unfolding float_is_finite
told_larger nan f h beyond = absurd (false≢true h)
told_larger (inf s) f h beyond = absurd (false≢true h)
told_larger (fin s m e) f h beyond =
    sym (large_is_whole s m e (digits s m e (subst T (sym f) tt)) (omega (arith, leb-false (m * up e) (1 * 2 ^ 53 * down e) (sym (between_powers 53 s m e) ∙ beyond))))

pub told_not_finite : (x : Float) → float_is_finite x ≡ false → Err NotWhole ≡ told (whole_number x)
unfolding whole_number float_is_finite
told_not_finite nan h = refl
told_not_finite (inf s) h = refl
told_not_finite (fin s m e) h = absurd (true≢false h)
