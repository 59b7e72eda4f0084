-- A small float with 3 × 2^51 added and taken off again is a whole number, and it is the float itself exactly where that is whole.
-- The sum is from 2^52 to 2^53: there no float has a fraction, and every whole number is a float.
use Rattle.std.proofs.Common.{◌≡◌, ℕ, zero, suc, ◌+◌, ◌-◌, ◌*◌, ◌/◌, ◌%◌, ◌^◌, ◌<◌, ◌≤◌, Bool, true, false, cond, T, ltb, ℤ, pos, negsuc, nat_abs, sym, refl, ap, ◌∙◌, subst, ap₂, true≢false, add-zero, mul-le-mul_right, zero-lt-suc, add-mul, mul-lt-mul_of_pos_right, pow-suc, div-add-mod', mul-one, arith, lit<, lit≤, pow_pos, ltb-false, ltb-true, le-ltb, lt-ltb, eq-eqb, eqb-true, le-leb, Ok, Err}
use native.Mathlib.Nat.{div-le_of_le-mul}
use lib.IntN.{sub_ℕ}
use lib.Ieee.{Float, nan, inf, fin, binary64, up, down, round, sum, add, neg, sub, eq, fits, le, of_int, to_signed, in_signed}
use lib.Ieee.Fits.{down_pos, round-fits}
use lib.Ieee.Exact.{HasValue}
use lib.Ieee.Back.{round_whole, positive_back, negative_back}
use lib.Ieee.Scale.{round_same}
use lib.Ieee.Order.{round_mono}
use lib.Ieee.Positive.{positive, own_value, positive_of_value, between, values_of_le}
use Rattle.floats.specs.declared.NotExact.TheVariants.{NotWhole}
use Rattle.floats.specs.WholeNumbers.{signed, whole_number, float_of}
use Rattle.floats.specs.Reading.{most_exact, told, small, exact_range}
use Rattle.floats.proofs.ExactFloats.{cast_exact, negative, float_value}
use Rattle.floats.proofs.Comparisons.{same_test, between_powers, by_size, equal_to_whole}
use Rattle.floats.proofs.WholeFloats.{cut_is, equal_cut, small_cut, told_by_cut, told_fraction, digits}

-- 2^51, 2^52 and 3 × 2^51
abbrev most_small : ℕ
most_small = 2251799813685248

abbrev least_sum : ℕ
least_sum = 4503599627370496

abbrev added : ℕ
added = 6755399441055744

abbrev added_float : Float
added_float = fin false 3 (pos 51)

-- ---- The sum of 3 × 2^51 and ±a / c is a fraction of c

abbrev raised : Bool → ℕ → ℕ → ℕ
raised true a c = added * c - a
raised false a c = added * c + a

least_raised : (s : Bool) (a c : ℕ) → a ≤ most_small * c → least_sum * c ≤ raised s a c
least_raised true a c h = omega arith
least_raised false a c h = omega arith

most_raised : (s : Bool) (a c : ℕ) → a ≤ most_small * c → raised s a c ≤ most_exact * c
most_raised true a c h = omega arith
most_raised false a c h = omega arith

sum_is : (s : Bool) (m : ℕ) (e : ℤ) → m * up e ≤ most_small * down e
    → add binary64 (fin s m e) added_float ≡ round binary64 false (raised s (m * up e) (down e)) (down e)
unfolding add sum
sum_is true m e h =
    let a = m * up e * 1 in
    let more = added * down e in
    ap (λ (b : Bool). cond b (round binary64 false (more - a) (down e * 1)) (round binary64 (ltb more a) (a - more) (down e * 1))) (lt-ltb a more (omega (arith, down_pos e)))
    ∙ ap₂ (round binary64 false) (ap (λ (x : ℕ). more - x) (mul-one (m * up e))) (mul-one (down e))
sum_is false m e h =
    let same : m * up e * 1 + added * down e ≡ added * down e + m * up e = omega arith in
    ap₂ (round binary64 false) same (mul-one (down e))

-- ---- From 2^52 to 2^53 a fraction is rounded to a whole number

-- with at most 53 digits a float of 2^52 or more has no negative exponent
fraction_too_large : (m p q : ℕ) → m < most_exact → q ≡ p * 2 → 0 < p → least_sum * q ≤ m * 1 * 1 → ⊥
fraction_too_large m p q short double above large = omega arith

module _ (num den : ℕ) (above : 0 < den) (least : least_sum * den ≤ num) (most : num ≤ most_exact * den) where
  abbrev lowest : Float
  lowest = round binary64 false least_sum 1

  abbrev highest : Float
  highest = round binary64 false most_exact 1

  lowest_value : HasValue lowest false least_sum 1
  lowest_value = round_whole binary64 false least_sum (lit≤ tt)

  highest_value : HasValue highest false most_exact 1
  highest_value = round_whole binary64 false most_exact (lit≤ tt)

  lowest_positive : T (positive lowest)
  lowest_positive = positive_of_value lowest least_sum 1 lowest_value (lit< tt)

  highest_positive : T (positive highest)
  highest_positive = positive_of_value highest most_exact 1 highest_value (lit< tt)

  whole_value : (z : Float) → T (fits binary64 z) → T (positive z) → T (le lowest z) → T (le z highest) → (n : ℕ) × (n ≤ most_exact) × HasValue z false n 1
  whole_value nan f p l h = absurd p
  whole_value (inf s) f p l h = absurd p
  whole_value (fin true m e) f p l h = absurd p
  whole_value (fin false m (pos k)) f p l h =
      let n = m * 2 ^ k in
      (n, omega (arith, values_of_le (fin false m (pos k)) highest n 1 most_exact 1 p highest_positive (refl, refl) highest_value h), (refl, refl))
  whole_value (fin false m (negsuc k)) f p l h =
      let z = fin false m (negsuc k) in
      absurd
      (fraction_too_large m (2 ^ k) (2 ^ suc k) (digits false m (negsuc k) f) (pow-suc 2 k) (pow_pos k)
      (values_of_le lowest z least_sum 1 (m * 1) (2 ^ suc k) lowest_positive p lowest_value (own_value z p) l))

  rounded_to_whole : (n : ℕ) × (n ≤ most_exact) × HasValue (round binary64 false num den) false n 1
  rounded_to_whole =
      let z = round binary64 false num den in
      let from : T (le lowest z) = round_mono binary64 least_sum 1 num den (zero-lt-suc 0) above (omega arith) in
      let to : T (le z highest) = round_mono binary64 num den most_exact 1 above (zero-lt-suc 0) (omega arith) in
      whole_value z (round-fits binary64 false num den) (between lowest z highest lowest_positive highest_positive from to) from to

-- ---- Taken off a whole number, 3 × 2^51 leaves the float of the difference

taken_from_product : (a b r c : ℕ) → a ≡ b + r → (a * c - b * c) * 1 ≡ r * (c * 1)
taken_from_product a b r c p =
    let same : a * c ≡ b * c + r * c = ap (λ (x : ℕ). x * c) p ∙ add-mul b r c in
    let left : a * c - b * c ≡ r * c = omega (arith, same) in
    mul-one (a * c - b * c) ∙ left ∙ ap (λ (x : ℕ). r * x) (sym (mul-one c))

difference : (n c : ℕ) → 0 < c
    → cond (ltb (n * c) (added * c)) (round binary64 true (added * c - n * c) (c * 1)) (round binary64 false (n * c - added * c) (c * 1)) ≡ float_of (sub_ℕ n added)
unfolding of_int
difference n c h = go (ltb n added) refl
  where
    below : Float
    below = round binary64 true (added * c - n * c) (c * 1)

    above : Float
    above = round binary64 false (n * c - added * c) (c * 1)

    go : (b : Bool) → ltb n added ≡ b → cond (ltb (n * c) (added * c)) below above ≡ float_of (cond b (negsuc (added - suc n)) (pos (n - added)))
    go true p =
        let less : n < added = ltb-true n added p in
        ap (λ (b : Bool). cond b below above) (lt-ltb (n * c) (added * c) (mul-lt-mul_of_pos_right less h))
        ∙ round_same binary64 true (added * c - n * c) (c * 1) (suc (added - suc n)) 1 (omega arith) (zero-lt-suc 0) (taken_from_product added n (suc (added - suc n)) c (omega (arith, less)))
    go false p =
        let more : added ≤ n = ltb-false n added p in
        ap (λ (b : Bool). cond b below above) (le-ltb (n * c) (added * c) (mul-le-mul_right c more))
        ∙ round_same binary64 false (n * c - added * c) (c * 1) (n - added) 1 (omega arith) (zero-lt-suc 0) (taken_from_product n added (n - added) c (omega (arith, more)))

taken_off : (y : Float) (n : ℕ) → HasValue y false n 1 → sub binary64 y added_float ≡ float_of (sub_ℕ n added)
unfolding sub add sum neg
taken_off nan n v = absurd v
taken_off (inf s) n v = absurd v
taken_off (fin true m e) n v = absurd (true≢false v.0)
taken_off (fin false m e) n v =
    let less = added * down e in
    ap (λ (a : ℕ). cond (ltb a less) (round binary64 true (less - a) (down e * 1)) (round binary64 false (a - less) (down e * 1))) v.1
    ∙ difference n (down e) (down_pos e)

small_difference : (n : ℕ) → n ≤ most_exact → nat_abs (sub_ℕ n added) ≤ most_exact
small_difference n h = go (ltb n added)
  where
    go : (b : Bool) → nat_abs (cond b (negsuc (added - suc n)) (pos (n - added))) ≤ most_exact
    go true = omega arith
    go false = omega arith

-- ---- Added to a whole number and taken off again, it leaves that number

raised_product : (s : Bool) (q c : ℕ) → q ≤ most_small → raised s (q * c) c * 1 ≡ raised s q 1 * c
raised_product true q c h = taken_from_product added q (added - q) c (omega arith) ∙ ap (λ (x : ℕ). (added - q) * x) (mul-one c)
raised_product false q c h = mul-one (added * c + q * c) ∙ sym (add-mul added q c)

back_down : (s : Bool) (q : ℕ) → q ≤ most_small → sub_ℕ (raised s q 1) added ≡ signed s q
back_down true zero h = refl
back_down true (suc q) h =
    let n = added - suc q in
    let left : added - suc n ≡ q = omega arith in
    ap (λ (b : Bool). cond b (negsuc (added - suc n)) (pos (n - added))) (lt-ltb n added (omega arith)) ∙ ap negsuc left
back_down false q h =
    let n = added + q in
    let left : n - added ≡ q = omega arith in
    ap (λ (b : Bool). cond b (negsuc (added - suc n)) (pos (n - added))) (le-ltb n added (omega arith)) ∙ ap pos left

-- ---- The cast of a whole number's float gives the number

cast_back : (z : ℤ) → nat_abs z ≤ most_exact → T (in_signed binary64 63 (float_of z)) × (to_signed 63 (float_of z) ≡ z)
cast_back (pos n) h = positive_back binary64 63 n (cast_exact (pos n) h) (omega arith)
cast_back (negsuc n) h = negative_back binary64 63 n (cast_exact (negsuc n) h) (omega arith)

-- ---- A float m × 2^e of at most 2^51 in size, rounded so

abbrev pub rounded : Float → Float
rounded x = sub binary64 (add binary64 x added_float) added_float

module _ (s : Bool) (m : ℕ) (e : ℤ) (h : m * up e ≤ most_small * down e) where
  abbrev x : Float
  x = fin s m e

  abbrev rest : ℕ
  rest = m * up e % down e

  abbrev whole_part : ℕ
  whole_part = m * up e / down e

  exact : m * up e ≤ most_exact * down e
  exact = omega arith

  rounded_is_whole : (z : ℤ) × (nat_abs z ≤ most_exact) × (rounded x ≡ float_of z)
  rounded_is_whole =
      let num = raised s (m * up e) (down e) in
      let whole = rounded_to_whole num (down e) (down_pos e) (least_raised s (m * up e) (down e) h) (most_raised s (m * up e) (down e) h) in
      let n = whole.0 in
      (sub_ℕ n added, small_difference n whole.1, ap (λ (y : Float). sub binary64 y added_float) (sum_is s m e h) ∙ taken_off (round binary64 false num (down e)) n whole.2)

  small_part : whole_part ≤ most_small
  small_part = div-le_of_le-mul (down e) (omega arith)

  sum_of_whole : rest ≡ 0 → add binary64 x added_float ≡ round binary64 false (raised s whole_part 1) 1
  sum_of_whole none =
      let size : m * up e ≡ whole_part * down e = sym (div-add-mod' (m * up e) (down e)) ∙ ap (λ (r : ℕ). whole_part * down e + r) none ∙ add-zero (whole_part * down e) in
      let same : raised s (m * up e) (down e) * 1 ≡ raised s whole_part 1 * down e = ap (λ (a : ℕ). raised s a (down e) * 1) size ∙ raised_product s whole_part (down e) small_part in
      sum_is s m e h ∙ round_same binary64 false (raised s (m * up e) (down e)) (down e) (raised s whole_part 1) 1 (down_pos e) (zero-lt-suc 0) same

  whole_comes_back : rest ≡ 0 → rounded x ≡ float_of (to_signed 63 x)
  whole_comes_back none =
      let n = raised s whole_part 1 in
      ap (λ (y : Float). sub binary64 y added_float) (sum_of_whole none)
      ∙ taken_off (round binary64 false n 1) n (round_whole binary64 false n (omega (arith, most_raised s whole_part 1 (omega (arith, small_part)))))
      ∙ ap float_of (back_down s whole_part small_part ∙ sym (cut_is s m e exact))

  no_rest_where_equal : eq (rounded x) x ≡ true → rest ≡ 0
  no_rest_where_equal same =
      let whole = rounded_is_whole in
      let z = whole.0 in
      equal_to_whole (float_of z) (negative z) (nat_abs z) s m e (float_value z whole.1) (ap (λ (y : Float). eq y x) (sym whole.2) ∙ same)

  -- it is equal where the float of the cut to an integer is
  equal_as_cut : eq (rounded x) x ≡ eq (float_of (to_signed 63 x)) x
  equal_as_cut =
      let by_rest = equal_cut s m e exact in
      same_test (eq (rounded x) x) (eq (float_of (to_signed 63 x)) x)
      (λ same. by_rest ∙ eq-eqb rest 0 (no_rest_where_equal same))
      (λ same. ap (λ (y : Float). eq y x) (whole_comes_back (eqb-true rest 0 (sym by_rest ∙ same))) ∙ same)

  -- and then its cast is that cut
  cast_is_cut : eq (rounded x) x ≡ true → to_signed 63 (rounded x) ≡ to_signed 63 x
  cast_is_cut same = ap (to_signed 63) (whole_comes_back (no_rest_where_equal same)) ∙ (cast_back (to_signed 63 x) (small_cut s m e exact)).1

  cast_allowed : T (in_signed binary64 63 (rounded x))
  cast_allowed =
      let whole = rounded_is_whole in
      subst (λ (y : Float). T (in_signed binary64 63 y)) (sym whole.2) (cast_back whole.0 whole.1).0

-- ---- A small float, as the code asks for it

module _ (x : Float) (h : small x ≡ true) where
  in_range : exact_range x ≡ true
  in_range = by_size 51 x h (λ x. exact_range x ≡ true) (λ s m e small. between_powers 53 s m e ∙ le-leb (m * up e) (most_exact * down e) (exact s m e small))

  as_cut : eq (rounded x) x ≡ eq (float_of (to_signed 63 x)) x
  as_cut = by_size 51 x h (λ x. eq (rounded x) x ≡ eq (float_of (to_signed 63 x)) x) equal_as_cut

  pub rounded_cast_allowed : T (in_signed binary64 63 (rounded x))
  rounded_cast_allowed = by_size 51 x h (λ x. T (in_signed binary64 63 (rounded x))) cast_allowed

  pub told_where_rounding_keeps : eq (rounded x) x ≡ true → Ok (to_signed 63 (rounded x)) ≡ told (whole_number x)
  told_where_rounding_keeps same =
      ap Ok (by_size 51 x h (λ x. eq (rounded x) x ≡ true → to_signed 63 (rounded x) ≡ to_signed 63 x) cast_is_cut same)
      ∙ told_by_cut x in_range (sym as_cut ∙ same)

  pub told_where_rounding_changes : eq (rounded x) x ≡ false → Err NotWhole ≡ told (whole_number x)
  told_where_rounding_changes other = told_fraction x in_range (sym as_cut ∙ other)
