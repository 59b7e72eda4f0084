-- Question 8: one exposure that passed or was refused, and the question as document 01 asks it.
use Rattle.std.proofs.Common.{◌≡◌, List, ℕ, ℤ, suc, ◌+◌, ◌-◌, ◌≤◌, ◌<◌, pos, get_or, ap, subst, ◌∙◌, add-one, arith}
use lib.Signed.{lt_z}
use Rattle.method.specs.Triangle.{Triangle, n}
use Rattle.method.specs.Outstandings as meaning
use Rattle.method.specs.Outstandings.{sums}
use Rattle.method.specs.Verdicts.{Place, accepted, refused, at, ask, first_to}
use Rattle.method.specs.Questions.{question_8}
use Rattle.method.proofs.FirstRefusal.{first_same, PassedSoFar, next_accepted, next_refused}
use Rattle.ratios.specs.declared.Sums.{Sums}
use Rattle.ratios.specs.Ratios.{no_sums, DevelopmentOf}
use Rattle.triangle.specs.Reading.{exposure_of_year, exposures}

-- development year k, where those before it have passed
module _ (count : ℕ) (ratios : List Sums) (k : ℕ) (s : PassedSoFar (count - 1) (exposure_of_year ratios) (k - 1)) (first : 1 ≤ k) (more : k < count) where
  here : k - 1 + 1 ≡ k
  here = omega arith

  pub year_passed : exposure_of_year ratios k ≡ accepted → PassedSoFar (count - 1) (exposure_of_year ratios) (k + 1 - 1)
  year_passed e =
      let next : k - 1 + 1 ≡ k + 1 - 1 = omega arith in
      subst (PassedSoFar (count - 1) (exposure_of_year ratios)) next (next_accepted s (omega arith) (ap (exposure_of_year ratios) here ∙ e))

  pub year_refused : {question : ℕ} {p : Place} → exposure_of_year ratios k ≡ refused question p → first_to (count - 1) (exposure_of_year ratios) ≡ refused question p
  year_refused e = next_refused s (omega arith) (ap (exposure_of_year ratios) here ∙ e)

pub question_8_is : (t : Triangle) (years : List Sums) (outstandings : List ℤ) → DevelopmentOf t years outstandings → exposures (n t) years ≡ question_8 t
unfolding exposures exposure_of_year question_8
question_8_is t years outstandings r = first_same (n t - 1) (exposure_of_year years) (λ k. ask (lt_z (pos 0) (sums t k).D) 8 (at 0 k)) same
  where
    same : (j : ℕ) → j < n t - 1 → exposure_of_year years (suc j) ≡ ask (lt_z (pos 0) (sums t (suc j)).D) 8 (at 0 (suc j))
    same j l =
        let there : suc j - 1 ≡ j = omega arith in
        ap (λ (x : ℕ). ask (lt_z (pos 0) (get_or years x no_sums).exposure) 8 (at 0 (suc j))) there
        ∙ ap (λ (s : meaning.Sums). ask (lt_z (pos 0) s.D) 8 (at 0 (suc j))) (r.year j (omega arith) ∙ ap (sums t) (add-one j))
