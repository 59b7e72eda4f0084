-- Document 01, "One projected year": the rule of a year, in millionths of a unit, in its three readings.
use Rattle.std.specs.Prelude.{List, [], ◌∷◌, ℤ, ◌+ℤ◌, ◌-ℤ◌, ◌*ℤ◌}
use Rattle.integers.specs.Fraction.{Fraction, ◌⊕◌, ◌⊖◌, ◌⊗◌, without_sign}
use Rattle.integers.specs.HalfUp.{half_up}
use Rattle.method.specs.Limits.{share_rounding, outstanding_rounding}
use Rattle.method.specs.Outstandings.{Sums, payment_ratio, adjustment_ratio, outstanding_factor}

-- The payment and the adjustment of a projected year, and the outstanding that they lead to: three figures, or their three allowances.
pub record Year (X : Type 0) : Type 0 where
  pub payment : X
  pub adjustment : X
  pub outstanding : X

-- as it is answered, in millionths
abbrev pub Movement : Type 0
Movement = Year ℤ

-- the three in the order of the future list
unfoldable pub figures : Movement → List ℤ
figures m = m.payment ∷ m.adjustment ∷ m.outstanding ∷ []

-- The share R × part / D, rounded half up; "share" is a term of document 01. It is taken only where D is above 0 (question 8).
unfoldable pub share : ℤ → ℤ → ℤ → ℤ
share r part d = half_up (r *ℤ part) d

-- The year after one that ends with the outstanding r and has the sums s.
unfoldable pub next_year : ℤ → Sums → Movement
next_year r s =
    let payment : ℤ = share r s.P s.D in
    let adjustment : ℤ = share r s.Q s.D in
    record { payment = payment; adjustment = adjustment; outstanding = r -ℤ payment +ℤ adjustment }

-- The unrounded year, from the unrounded outstanding u.
unfoldable pub unrounded_year : Fraction → Sums → Year Fraction
unrounded_year u s =
    let payment : Fraction = u ⊗ payment_ratio s in
    let adjustment : Fraction = u ⊗ adjustment_ratio s in
    record { payment = payment; adjustment = adjustment; outstanding = u ⊖ payment ⊕ adjustment }

-- What the year's figures are allowed, from the allowance a of the outstanding before; "allowance" is a term of document 01.
unfoldable pub allowed_year : Fraction → Sums → Year Fraction
allowed_year a s = record {
  payment = a ⊗ without_sign (payment_ratio s) ⊕ share_rounding;
  adjustment = a ⊗ without_sign (adjustment_ratio s) ⊕ share_rounding;
  outstanding = a ⊗ outstanding_factor s ⊕ outstanding_rounding;
}
