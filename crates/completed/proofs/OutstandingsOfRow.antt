-- The observed outstandings of a row as a loop makes them: each from the one before, within 64 bits where the row is within the limits.
use mathlib.Core.Path.{◌≡◌, refl, sym, ap, ◌∙◌, subst}
use Prim.Native.Nat.{ℕ, suc, ◌+◌, ◌-◌, ◌≤◌}
use native.Mathlib.Numerals.{add-one}
use native.Mathlib.Omega.{arith}
use lib.IntN.{ℤ, ◌+ℤ◌, ◌-ℤ◌}
use Rattle.std.specs.Prelude.{Some}
use mir.Syntax.{w64}
use mir.Val.{SFits}
use Rattle.exact_sums.specs.Exact.{exact_of}
use Rattle.exact_sums.proofs.Fits.{exact_by}
use Rattle.method.specs.Triangle.{Triangle, S, T, entry}
use Rattle.method.specs.Outstandings.{R}
use Rattle.outstandings.proofs.RowOutstandings.{less_payment_fits, next_fits}
use Rattle.completed.specs.Completed.{RowWithin, MovedTo, number_or_0, OutstandingAt}

-- ---- One movement

number_of_exact : (z : ℤ) → SFits w64 z → number_or_0 (exact_of z) ≡ z
number_of_exact z f = ap number_or_0 (sym (exact_by (Some z) z (f, refl)))

pub moved_exactly : (outstanding payment adjustment : ℤ) {less r : ℤ} → less ≡ number_or_0 (exact_of (outstanding -ℤ payment))
    → r ≡ number_or_0 (exact_of (less +ℤ adjustment)) → MovedTo outstanding payment adjustment r
moved_exactly o s t d e = record {
  is = λ f g. e ∙ ap (λ x. number_or_0 (exact_of (x +ℤ t))) (d ∙ number_of_exact (o -ℤ s) f) ∙ number_of_exact (o -ℤ s +ℤ t) g;
}

-- ---- The loop over a row

module _ (t : Triangle) (i : ℕ) where
  pub before_first_year : (opening : ℤ) → 1 ≤ i → opening ≡ entry t.openings (suc (i - 1)) → OutstandingAt t i 0 opening
  unfolding R
  before_first_year opening first e =
      let year_after : suc (i - 1) ≡ i = omega arith in
      record { is = λ within. e ∙ ap (entry t.openings) year_after }

  next_is : (j : ℕ) (r : ℤ) → SFits w64 (R t i j) → RowWithin t i (suc j) → MovedTo (R t i j) (S t i (suc j)) (T t i (suc j)) r → r ≡ R t i (suc j)
  unfolding R
  next_is j r fits within moved =
      let movable = within.movable j (omega arith) in
      moved.is (less_payment_fits _ _ _ fits movable) (next_fits _ _ _ fits movable)

  pub next_year : (j : ℕ) {outstanding r : ℤ} → SFits w64 outstanding → OutstandingAt t i j outstanding
      → MovedTo outstanding (S t i (j + 1)) (T t i (j + 1)) r → OutstandingAt t i (j + 1) r
  next_year j {outstanding} {r} fits so_far moved = rw add-one (record {
    is = λ within.
        let up_to_here : RowWithin t i j = record { movable = λ y l. within.movable y (omega arith) } in
        let here = so_far.is up_to_here in
        next_is j r (subst (λ (x : ℤ). SFits w64 x) here fits) within
        (subst (λ (x : ℤ). MovedTo x (S t i (suc j)) (T t i (suc j)) r) here (rw add-one at moved));
  })
