-- Question 10 of a cell: the code's test, within 64 bits, is document 01's.
use mathlib.Core.Path.{◌≡◌, refl, sym, ap, ◌∙◌}
use mathlib.Core.Bool.{Bool, true, false, ◌&&◌, and_comm}
use native.Mathlib.Omega.{arith}
use lib.IntN.{ℤ, pos, ◌+ℤ◌, ◌-ℤ◌}
use lib.Signed.{le_z, lt_z, ◌≤ℤ◌, ◌<ℤ◌, le_z_yes, lt_z_yes}
use mir.Syntax.{w64}
use mir.Val.{SFits}
use Rattle.integers.proofs.RingSolver.{con, ◌:+◌, ◌:-◌}
use Rattle.integers.proofs.LinearFacts.{integers, ≤ℤ-by, <ℤ-by, fits_by, parts}
use Rattle.integers.proofs.Order.{nat_abs_parts}
use Rattle.method.specs.Tests.{from_to}
use Rattle.method.specs.Questions.{cell_unseen}
use Rattle.method.proofs.Tests.{is_true, true_is, from_to_true}
use Rattle.method.proofs.QuestionFacts.{YearsInRange}

same_test : (b c : Bool) → (b ≡ true → c ≡ true) → (c ≡ true → b ≡ true) → b ≡ c
same_test true c f g = sym (f refl)
same_test false true f g = g refl
same_test false false f g = refl

-- years + 2 − i ≤ k as years + 1 < i + k
same_sum : (years i k : ℤ) → le_z (years +ℤ pos 2 -ℤ i) k ≡ lt_z (years +ℤ pos 1) (i +ℤ k)
same_sum years i k = same_test (le_z (years +ℤ pos 2 -ℤ i) k) (lt_z (years +ℤ pos 1) (i +ℤ k)) there back
  where
    there : le_z (years +ℤ pos 2 -ℤ i) k ≡ true → lt_z (years +ℤ pos 1) (i +ℤ k) ≡ true
    there e = let h : (years +ℤ pos 2 -ℤ i) ≤ℤ k = le_z_yes (is_true e) in true_is (moved h).lt
      where
        moved : (years +ℤ pos 2 -ℤ i) ≤ℤ k → (years +ℤ pos 1) <ℤ (i +ℤ k)
        moved h = <ℤ-by (con years :+ con (pos 1)) (con i :+ con k) (omega (arith, integers, parts (con years :+ con (pos 2) :- con i)))

    back : lt_z (years +ℤ pos 1) (i +ℤ k) ≡ true → le_z (years +ℤ pos 2 -ℤ i) k ≡ true
    back e = let h : (years +ℤ pos 1) <ℤ (i +ℤ k) = lt_z_yes (is_true e) in true_is (moved h).le
      where
        moved : (years +ℤ pos 1) <ℤ (i +ℤ k) → (years +ℤ pos 2 -ℤ i) ≤ℤ k
        moved h = ≤ℤ-by (con years :+ con (pos 2) :- con i) (con k) (omega (arith, integers, parts (con years :+ con (pos 1)), parts (con i :+ con k)))

pub in_range_unseen : (years i k : ℤ) → from_to (pos 2) years i ≡ true → from_to (years +ℤ pos 2 -ℤ i) years k ≡ cell_unseen years i k
unfolding cell_unseen
in_range_unseen years i k e =
    ap (λ (b : Bool). b && le_z k years) (same_sum years i k)
    ∙ and_comm (lt_z (years +ℤ pos 1) (i +ℤ k)) (le_z k years)
    ∙ sym (ap (λ (b : Bool). b && le_z k years && lt_z (years +ℤ pos 1) (i +ℤ k)) e)

pub out_of_range_unseen : (years i k : ℤ) → from_to (pos 2) years i ≡ false → false ≡ cell_unseen years i k
unfolding cell_unseen
out_of_range_unseen years i k e = rw e

-- within 64 bits
module _ {years : ℤ} (y : YearsInRange years) where
  pub years_fit : SFits w64 (years +ℤ pos 2)
  years_fit = fits_by w64 (con years :+ con (pos 2)) (omega (arith, integers, nat_abs_parts years, y.most))

  pub first_unseen_fits : (i : ℤ) → from_to (pos 2) years i ≡ true → SFits w64 (years +ℤ pos 2 -ℤ i)
  first_unseen_fits i e =
      let h = from_to_true (pos 2) years i e in
      fits_by w64 (con years :+ con (pos 2) :- con i) (omega (arith, integers, nat_abs_parts years, y.most, h.0, h.1))
