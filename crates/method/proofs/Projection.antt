-- The rule of document 01: that a year leaves no outstanding negative, that it keeps allowances, and when the last year leaves nothing.
use mathlib.Core.Path.{◌≡◌, refl, ap, ◌∙◌, subst}
use Prim.Native.Nat.{ℕ, suc, ◌-◌, ◌≤◌}
use native.Mathlib.Omega.{arith}
use lib.IntN.{ℤ, pos, ◌+ℤ◌, ◌-ℤ◌, ◌*ℤ◌, +ℤ_idl, *ℤ-zero}
use lib.Signed.{◌≤ℤ◌, ◌<ℤ◌}
use Rattle.integers.specs.Fraction.{Fraction, size, ◌over◌, ◌⊕◌, ◌⊗◌, Within}
use Rattle.integers.proofs.Order.{size_of_nonneg}
use Rattle.integers.proofs.Rounding.{Nearest, half_up_nearest}
use Rattle.integers.proofs.Nearness.{nearest_within, balance_within, balance_nonneg, balance_zero, share_within}
use Rattle.integers.proofs.SameNumber.{same, within_same, share_by_factor_apart}
use Rattle.method.specs.Counting.{up_to, sum_to}
use Rattle.method.specs.Triangle.{Triangle, n, w}
use Rattle.method.specs.Outstandings.{Sums, R, sums}
use Rattle.method.specs.SumLimits.{SumsInRange}
use Rattle.method.specs.ProjectedYear.{share, next_year, unrounded_year, allowed_year}
use Rattle.method.specs.RunOff.{O, movement, method}
use Rattle.method.specs.AnswerPlaces.{Projected}
use Rattle.method.proofs.QuestionFacts.{Accepted}
use Rattle.method.proofs.SumBounds.{factor_is, sums_in_range}
use Rattle.method.proofs.KeptAllowances.{KeptYear, Keeps}

-- ---- One year

pub share_nearest : (r part d : ℤ) → pos 0 <ℤ d → Nearest (r *ℤ part) d (share r part d)
unfolding share
share_nearest r part d h = half_up_nearest (r *ℤ part) d h

module _ (r : ℤ) (s : Sums) (h : pos 0 <ℤ s.D) where
  pub next_nonneg : pos 0 ≤ℤ r → pos 0 ≤ℤ (s.D -ℤ s.P +ℤ s.Q) → pos 0 ≤ℤ (next_year r s).outstanding
  unfolding next_year
  next_nonneg = balance_nonneg r s.P s.Q s.D (share r s.P s.D) (share r s.Q s.D) h
      (share_nearest r s.P s.D h) (share_nearest r s.Q s.D h)

  pub next_zero : s.D -ℤ s.P +ℤ s.Q ≡ pos 0 → (next_year r s).outstanding ≡ pos 0
  unfolding next_year
  next_zero = balance_zero r s.P s.Q s.D (share r s.P s.D) (share r s.Q s.D) h
      (share_nearest r s.P s.D h) (share_nearest r s.Q s.D h)

  -- from an outstanding r that keeps its allowance a of the unrounded u
  module _ (u a : Fraction) (k : Within r u a) where
    -- a share keeps the outstanding's allowance times the size of its ratio, plus one half
    rounded_share : (part : ℤ) → Within (share r part s.D) (u ⊗ part over s.D) (a ⊗ size part over s.D ⊕ pos 1 over pos 2)
    rounded_share part =
        share_within r part s.D (share r part s.D) u a (pos 1 over pos 2) h k
        (nearest_within (r *ℤ part) s.D (share r part s.D) h (share_nearest r part s.D h))

    abbrev φ : ℤ
    φ = s.D -ℤ s.P +ℤ s.Q

    abbrev b : ℤ
    b = r -ℤ share r s.P s.D +ℤ share r s.Q s.D

    -- the two roundings together move the outstanding by less than 1 from its share by the outstanding factor
    by_the_factor : pos 0 ≤ℤ φ → Within b (u ⊗ φ over s.D) (a ⊗ φ over s.D ⊕ pos 1 over pos 1)
    by_the_factor f =
        subst (λ (x : ℤ). Within b (u ⊗ φ over s.D) (a ⊗ x over s.D ⊕ pos 1 over pos 1)) (size_of_nonneg φ f)
        (share_within r φ s.D b u a (pos 1 over pos 1) h k
        (balance_within r s.P s.Q s.D (share r s.P s.D) (share r s.Q s.D) h
        (share_nearest r s.P s.D h) (share_nearest r s.Q s.D h)))

    pub year_kept : pos 0 ≤ℤ (s.D -ℤ s.P +ℤ s.Q) → KeptYear (next_year r s) (unrounded_year u s) (allowed_year a s)
    unfolding next_year unrounded_year allowed_year
    year_kept f = record {
      payment = rounded_share s.P;
      adjustment = rounded_share s.Q;
      outstanding = within_same (share_by_factor_apart u s.P s.Q s.D k.figure_positive h) (same (by_the_factor f).allowance_positive) (by_the_factor f);
    }

-- ---- An accepted triangle

-- where the oldest year's last outstanding is 0, so is the last outstanding factor
pub last_factor_zero : (t : Triangle) (k : ℕ) → suc k ≡ n t → R t 1 (n t) ≡ pos 0 → (sums t k).D -ℤ (sums t k).P +ℤ (sums t k).Q ≡ pos 0
unfolding up_to
last_factor_zero t k e z =
    let s : n t - k ≡ 1 = omega arith in
    factor_is t k
    ∙ ap (λ (m : ℕ). sum_to m (λ i. w t i k *ℤ R t i (suc k))) s
    ∙ +ℤ_idl (w t 1 k *ℤ R t 1 (suc k))
    ∙ ap (λ (m : ℕ). w t 1 k *ℤ R t 1 m) e
    ∙ ap (λ x. w t 1 k *ℤ x) z
    ∙ *ℤ-zero (w t 1 k)

module _ (t : Triangle) (ok : Accepted t) where
  -- the sums by which a cell is projected
  in_range : (i k : ℕ) → Projected (n t) i k → SumsInRange (sums t k)
  in_range i k p =
      let first : 1 ≤ k = omega (arith, p.row, p.after) in
      sums_in_range t ok.observed k first p.year (ok.exposure k first p.year)

  pub method_keeps : Keeps (method t)
  unfolding movement next_year
  method_keeps = record {
    some_year = omega (arith, ok.observed.years.fewest);
    moves = λ i k r. refl;
    year = λ i k p r u a b. year_kept r (sums t k) (in_range i k p).D_positive u a b (in_range i k p).factor_nonneg;
    closes = λ z i k p e. next_zero (O (method t) i k) (sums t k) (in_range i k p).D_positive (last_factor_zero t k e z);
  }
