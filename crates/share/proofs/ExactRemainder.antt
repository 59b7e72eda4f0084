-- The quotient of a product by a prepared fraction is the cut one or one less, so that what it leaves is known by lower halves alone.
use Rattle.std.proofs.Common.{◌≡◌, ℕ, ◌+◌, ◌-◌, ◌*◌, ◌/◌, ◌%◌, ◌^◌, ◌<◌, ◌≤◌, pos, ◌-ℤ◌, mul-le-mul_right, lt_of_mul-lt-mul_right, mul-le-mul_left, arith, w64, SFits}
use Rattle.integers.proofs.RingSolver.{con, ◌:+◌, ◌:-◌, ◌:*◌, neg}
use Rattle.integers.proofs.LinearFacts.{≡-by, ≤ℤ-by, <ℤ-by, fits_by}
use Rattle.integers.proofs.Estimates.{estimate-≤, estimate-<}
use Rattle.share.specs.NearestQuotient.{NearestInput, NearestQuotient, RoundedUp}

-- a difference is known by the lower halves of both numbers
wrapped : (x y : ℕ) → y ≤ x → x < y + 2 ^ 64 → (x % 2 ^ 64 + (2 ^ 64 - y % 2 ^ 64)) % 2 ^ 64 + y ≡ x
wrapped x y h k = omega arith

module _ {outstanding remainder fraction exposure : ℕ} (i : NearestInput outstanding remainder fraction exposure) where
  abbrev pub estimate : ℕ
  estimate = outstanding * fraction / 2 ^ 64

  taken-≤ : estimate * exposure ≤ outstanding * remainder
  taken-≤ = estimate-≤ (2 ^ 64) remainder exposure fraction outstanding estimate (omega arith) (omega (arith, i.fraction_of.low)) (omega arith)

  -- less than 1 + 1/2 too little: of twice the outstanding, 2 estimate + 1 is less than 2 too little
  product-< : 2 * (outstanding * remainder) < 2 * (estimate * exposure) + 3 * exposure
  product-< =
      omega (arith, estimate-< (2 ^ 64) remainder exposure fraction 64 (2 * outstanding) (2 * estimate + 1) 1 i.exposed.positive (omega (arith, i.fraction_of.high)) (omega arith) (omega arith))

  -- what the estimate leaves, by lower halves
  abbrev pub left : ℕ
  left = (outstanding * remainder % 2 ^ 64 + (2 ^ 64 - estimate * exposure % 2 ^ 64)) % 2 ^ 64

  exact : left + estimate * exposure ≡ outstanding * remainder
  exact = wrapped (outstanding * remainder) (estimate * exposure) taken-≤ (omega (arith, product-<))

  pub left-few : 2 * left < 3 * exposure
  left-few = omega (arith, exact, product-<)

  pub left-< : left < 2 ^ 63
  left-< = omega (arith, left-few, i.exposed.most)

  module _ {up : ℕ} (u : RoundedUp left exposure up) where
    quotient-≤ : estimate + up ≤ outstanding
    quotient-≤ = le_of_lt_suc (lt_of_mul-lt-mul_right exposure {m = estimate + up} {n = outstanding + 1} (omega (arith, exact, u.low, mul-le-mul_left outstanding i.below)))
      where
        le_of_lt_suc : {m n : ℕ} → m < n + 1 → m ≤ n
        le_of_lt_suc h = omega arith

    up-≤ : up * exposure ≤ exposure
    up-≤ = omega (arith, mul-le-mul_right exposure u.most)

    pub up-< : up * exposure < 2 ^ 63
    up-< = omega (arith, up-≤, i.exposed.most)

    pub leftover_fits : SFits w64 (pos left -ℤ pos (up * exposure))
    leftover_fits = fits_by w64 (con (pos left) :- con (pos (up * exposure))) (omega (arith, left-few, up-≤, i.exposed.most))

    pub nearest_quotient : NearestQuotient outstanding remainder exposure (record { quotient = estimate + up; left = pos left -ℤ pos (up * exposure) })
    nearest_quotient = record {
      exact = ≡-by (con (pos (outstanding * remainder))) (con (pos ((estimate + up) * exposure)) :+ (con (pos left) :- con (pos (up * exposure)))) (omega (arith, exact));
      low = ≤ℤ-by (neg (con (pos exposure))) (con (pos 2) :* (con (pos left) :- con (pos (up * exposure)))) (omega (arith, u.low));
      high = <ℤ-by (con (pos 2) :* (con (pos left) :- con (pos (up * exposure)))) (con (pos exposure)) (omega (arith, u.high));
      most = quotient-≤;
    }
