-- Multiplication by the cut reciprocal of a divisor: a quotient that is at most one too little, and digits that are too little by few.
use mathlib.Core.Path.{◌≡◌, sym, ap, ◌∙◌, subst}
use Prim.Native.Nat.{ℕ, ◌+◌, ◌-◌, ◌*◌, ◌/◌, ◌^◌, ◌≤◌, ◌<◌}
use native.Mathlib.Nat.{mul-le-mul_left, mul-le-mul_right, lt_of_mul-lt-mul_right, div-add-mod', mod-lt, mod-eq-sub-div-mul, div-eq_of_lt-le}
use native.Mathlib.Omega.{arith}
use Rattle.integers.proofs.Estimates.{estimate-≤, estimate-<}
use Rattle.method.specs.SumLimits.{greatest_sum}
use Rattle.prepared_ratios.specs.declared.Divided.{Divided}
use Rattle.prepared_ratios.specs.declared.Divisor.{Divisor}
use Rattle.prepared_ratios.specs.Ratio.{Division, NextDigit, FractionOf}

-- a quotient and a remainder are known by the dividend that they make
division_by : (x d q r : ℕ) → x ≡ q * d + r → r < d → Division x d (record { quotient = q; left = r })
division_by x d q r e l = record { quotient_is = sym quotient_is; remainder_is = sym (mod-eq-sub-div-mul x d ∙ omega (arith, e, ap (λ t. t * d) quotient_is)) }
  where
    quotient_is : x / d ≡ q
    quotient_is = div-eq_of_lt-le {k = q} d {m = x} (omega arith) (omega arith)

module _ (d : Divisor) where
  reciprocal-≤ : d.reciprocal * d.exposure ≤ 2 ^ 62
  reciprocal-≤ = subst (λ (i : ℕ). i * d.exposure ≤ 2 ^ 62) (sym d.reciprocal_is) (omega (arith, div-add-mod' (2 ^ 62) d.exposure))

  reciprocal-< : 2 ^ 62 < (d.reciprocal + 1) * d.exposure
  reciprocal-< =
      subst (λ (i : ℕ). 2 ^ 62 < (i + 1) * d.exposure) (sym d.reciprocal_is)
      (omega (arith, div-add-mod' (2 ^ 62) d.exposure, mod-lt (2 ^ 62) {m = d.exposure} d.exposed.positive))

-- ---- A quotient

module _ {dividend : ℕ} (d : Divisor) (h : dividend ≤ greatest_sum) where
  abbrev estimate : ℕ
  estimate = 4 * dividend * d.reciprocal / 2 ^ 64

  pub estimated-≤ : estimate * d.exposure ≤ dividend
  estimated-≤ = omega (arith, estimate-≤ (2 ^ 62) 1 d.exposure d.reciprocal dividend estimate (omega arith) (omega (arith, reciprocal-≤ d)) (omega arith))

  estimated-< : dividend < (estimate + 2) * d.exposure
  estimated-< = omega (arith, estimate-< (2 ^ 62) 1 d.exposure d.reciprocal 1 dividend estimate 1 d.exposed.positive (omega (arith, reciprocal-< d)) (omega arith) (omega arith))

  -- what the estimate leaves of the dividend tells whether it is one too little
  pub estimate_right : dividend - estimate * d.exposure < d.exposure
      → Division dividend d.exposure (record { quotient = estimate; left = dividend - estimate * d.exposure })
  estimate_right l = division_by dividend d.exposure estimate (dividend - estimate * d.exposure) (omega (arith, estimated-≤)) l

  pub estimate_corrected : d.exposure ≤ dividend - estimate * d.exposure
      → Division dividend d.exposure (record { quotient = estimate + 1; left = dividend - estimate * d.exposure - d.exposure })
  estimate_corrected l =
      division_by dividend d.exposure (estimate + 1) (dividend - estimate * d.exposure - d.exposure) (omega (arith, estimated-≤)) (omega (arith, estimated-<))

-- ---- One digit

module _ {left : ℕ} (d : Divisor) (h : left < 3 * d.exposure) where
  abbrev digit : ℕ
  digit = left * d.reciprocal / 2 ^ 42

  pub scaled-≤ : left * d.reciprocal ≤ 3 * 2 ^ 62
  scaled-≤ = omega (arith, mul-le-mul_right d.reciprocal h, reciprocal-≤ d)

  pub taken-≤ : digit * d.exposure ≤ left * 2 ^ 20
  taken-≤ = estimate-≤ (2 ^ 42) (2 ^ 20) d.exposure d.reciprocal left digit (omega arith) (reciprocal-≤ d) (omega arith)

  pub next_digit_by : NextDigit left d.exposure (record { quotient = digit; left = left * 2 ^ 20 - digit * d.exposure })
  next_digit_by = record { exact = omega (arith, taken-≤); below = λ times l. omega (arith, taken-≤, short times l) }
    where
      short : (times : ℕ) → left < times * d.exposure → left * 2 ^ 20 < (digit + 1 + times) * d.exposure
      short times l =
          estimate-< (2 ^ 42) (2 ^ 20) d.exposure d.reciprocal 1 left digit times d.exposed.positive (reciprocal-< d) (omega arith)
          (omega (arith, mul-le-mul_left times d.exposed.most))

-- ---- Three digits

abbrev pub digits_together : (first second third : Divided ℕ ℕ) → ℕ
digits_together first second third = ((first.quotient * 2 ^ 20 + second.quotient) * 2 ^ 20 + third.quotient) * 16

first_below : {remainder exposure : ℕ} {first : Divided ℕ ℕ} → remainder < exposure → NextDigit remainder exposure first → first.left < 2 * exposure
first_below h f = f.below 1 (omega arith)

second_below : {left exposure : ℕ} {second : Divided ℕ ℕ} → left < 2 * exposure → NextDigit left exposure second → second.left < 3 * exposure
second_below h s = s.below 2 h

module _ {remainder exposure : ℕ} {first second third : Divided ℕ ℕ} (h : remainder < exposure)
    (f : NextDigit remainder exposure first) (s : NextDigit first.left exposure second) (t : NextDigit second.left exposure third) where
  pub fraction_by : FractionOf remainder exposure (digits_together first second third)
  fraction_by = record {
    low = omega (arith, f.exact, s.exact, t.exact);
    high = omega (arith, f.exact, s.exact, t.exact, t.below 3 (second_below (first_below h f) s));
  }

  pub digits_together-< : digits_together first second third < 2 ^ 64
  digits_together-< = lt_of_mul-lt-mul_right exposure {m = digits_together first second third} {n = 2 ^ 64} (omega (arith, fraction_by.low))
