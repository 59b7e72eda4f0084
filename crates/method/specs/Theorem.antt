-- The 2008 paper, equation 3.3 of Proposition 3.1 and equations 3.6 to 3.9 of Theorem 3.2, of the unrounded method.
-- The names are the paper's, without the hats that it puts on estimates, and amounts are in millionths.
-- What the paper says of expectations and variances is not stated here.
use Rattle.std.specs.Prelude.{◌≡◌, ℕ, ◌+◌, ◌-◌, ◌≤◌, ◌<◌, pos, ◌*ℤ◌, ◌<ℤ◌}
use Rattle.integers.specs.Fraction.{Fraction, ◌over◌, ◌⊕◌, ◌⊖◌, ◌⊗◌, ◌≈◌}
use Rattle.method.specs.Counting.{up_to, sum_to, fractions_to}
use Rattle.method.specs.Verdicts.{accepted}
use Rattle.method.specs.Triangle.{Triangle, n, w}
use Rattle.method.specs.Outstandings.{payment_ratio, adjustment_ratio, outstanding_factor, R, sums}
use Rattle.method.specs.RunOff.{U, unrounded_movement, first_outstanding, unrounded_paid, unrounded_incurred, method}
use Rattle.method.specs.Answers.{answer}
use Rattle.method.specs.AnswerPlaces.{Projected, AccidentYear}

-- The product and the sum of g l for l from first to last; 1 and 0 where last is before first.
abbrev pub product_from_to : ℕ → ℕ → (ℕ → Fraction) → Fraction
product_from_to first last g = up_to ◌⊗◌ (pos 1 over pos 1) (last + 1 - first) (λ j. g (first + j - 1))

abbrev pub sum_from_to : ℕ → ℕ → (ℕ → Fraction) → Fraction
sum_from_to first last g = fractions_to (last + 1 - first) (λ j. g (first + j - 1))

module _ (t : Triangle) where
  -- of development year k: (3.1), (3.2) and (3.3)
  abbrev pub α : ℕ → Fraction
  α k = payment_ratio (sums t k)

  abbrev pub β : ℕ → Fraction
  β k = adjustment_ratio (sums t k)

  abbrev pub f : ℕ → Fraction
  f k = outstanding_factor (sums t k)

  -- Cell (i, k) is unseen: i + k > n + 1. The definitions of the method name it by year k − 1, which it is made from.
  abbrev pub Unseen : ℕ → ℕ → Type 0
  Unseen i k = Projected (n t) i (k - 1)

  abbrev pub projected_S : ℕ → ℕ → Fraction
  projected_S i k = (unrounded_movement (method t) i (k - 1)).payment

  abbrev pub projected_T : ℕ → ℕ → Fraction
  projected_T i k = (unrounded_movement (method t) i (k - 1)).adjustment

  abbrev pub projected_R : ℕ → ℕ → Fraction
  projected_R = U (method t)

  -- R(i, n + 1 − i), the last observed outstanding
  abbrev pub last_R : ℕ → Fraction
  last_R i = first_outstanding (method t) i over pos 1

  pub record Theorem3_2 : Type 0 where
    -- how Proposition 3.1 defines f
    pub factor : (k : ℕ) → 1 ≤ k → k < n t → f k ≈ pos 1 over pos 1 ⊖ α k ⊕ β k
    -- (3.3)
    pub factor_of_outstandings : (k : ℕ) → 1 ≤ k → k < n t
        → f k ≈ sum_to (n t - k) (λ i. w t i k *ℤ R t i (k + 1)) over sum_to (n t - k) (λ i. w t i k *ℤ R t i k)
    -- (3.6), both of its equations
    pub payment_of_outstanding : (i k : ℕ) → Unseen i k → projected_S i k ≈ α (k - 1) ⊗ projected_R i (k - 1)
    pub payment : (i k : ℕ) → Unseen i k → projected_S i k ≈ α (k - 1) ⊗ last_R i ⊗ product_from_to (n t + 1 - i) (k - 2) f
    -- (3.7), both of its equations
    pub adjustment_of_outstanding : (i k : ℕ) → Unseen i k → projected_T i k ≈ β (k - 1) ⊗ projected_R i (k - 1)
    pub adjustment : (i k : ℕ) → Unseen i k → projected_T i k ≈ β (k - 1) ⊗ last_R i ⊗ product_from_to (n t + 1 - i) (k - 2) f
    -- (3.8)
    pub outstanding : (i k : ℕ) → Unseen i k → projected_R i k ≈ last_R i ⊗ product_from_to (n t + 1 - i) (k - 1) f
    -- (3.9), where there is no tail development
    pub no_gap : R t 1 (n t) ≡ pos 0 → (i : ℕ) → AccidentYear (n t) i
        → sum_from_to (n t + 2 - i) (n t) (projected_S i) ≈ last_R i ⊕ sum_from_to (n t + 2 - i) (n t) (projected_T i)
    -- the two sides of (3.9) are the unrounded reserves
    pub paid_side : (i : ℕ) → AccidentYear (n t) i → unrounded_paid (method t) i ≡ sum_from_to (n t + 2 - i) (n t) (projected_S i)
    pub incurred_side : (i : ℕ) → AccidentYear (n t) i → unrounded_incurred (method t) i ≡ last_R i ⊕ sum_from_to (n t + 2 - i) (n t) (projected_T i)
    -- from the proof of (3.9): with a tail development too, incurred less paid reserve is R(i, n) as projected
    pub gap : (i : ℕ) → AccidentYear (n t) i → unrounded_incurred (method t) i ≈ unrounded_paid (method t) i ⊕ projected_R i (n t)

-- Where D(k) is above 0 for each k from 1 to n − 1, whatever else the triangle holds. Proved as `theorem_3_2`.
abbrev pub ExposuresPositive : Triangle → Type 0
ExposuresPositive t = (k : ℕ) → 1 ≤ k → k < n t → pos 0 <ℤ (sums t k).D

abbrev pub Theorem3_2WhereExposuresArePositive : Type 0
Theorem3_2WhereExposuresArePositive = (t : Triangle) → ExposuresPositive t → Theorem3_2 t

-- So it is in every accepted triangle. Proved as `theorem_3_2_accepted`.
abbrev pub Theorem3_2OfEveryAcceptedTriangle : Type 0
Theorem3_2OfEveryAcceptedTriangle =
    (t : Triangle) (future_room reserves_room : ℕ) → (answer t future_room reserves_room).verdict ≡ accepted → Theorem3_2 t
