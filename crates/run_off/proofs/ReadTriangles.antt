-- What was read off a triangle that questions 1 to 8 accept: it can be projected, its rows are the triangle's, and question 9 completes the verdict.
use mathlib.Core.Path.{◌≡◌, sym, ap, ap₂, ◌∙◌}
use mathlib.Core.Bool.{Bool}
use mathlib.Core.List.{List}
use Prim.Native.Nat.{ℕ, ◌+◌, ◌-◌, ◌≤◌, ◌<◌}
use native.Mathlib.Omega.{arith}
use lib.Dec.{T}
use lib.IntN.{ℤ, nat_abs}
use lib.Signed.{non_neg}
use mir.Syntax.{w64}
use mir.Val.{Fits}
use Rattle.std.proofs.Common.{Option, Some, Ok}
use Rattle.method.specs.Triangle.{Triangle, n, entry, future_length, reserves_length}
use Rattle.method.specs.Outstandings.{R, sums}
use Rattle.method.specs.SumLimits.{SumsInRange}
use Rattle.method.specs.ProjectedYear.{next_year}
use Rattle.method.specs.RunOff.{last_observed, future, reserves, method}
use Rattle.method.specs.Verdicts.{Verdict, accepted}
use Rattle.method.specs.Questions.{question_1, input_questions, question_8, observed_questions, question_9, questions, lengths_right}
use Rattle.method.proofs.FirstRefusal.{then_accepted, went_on}
use Rattle.method.proofs.Positions.{entry_place}
use Rattle.method.proofs.QuestionFacts as facts
use Rattle.method.proofs.QuestionFacts.{Observed, observed_triangle, exposures_positive, says_lengths}
use Rattle.method.proofs.Readings.{R_in_range}
use Rattle.method.proofs.SameRows.{SameRow, same_question_9, same_future, same_reserves}
use Rattle.method.proofs.SumBounds.{sums_in_range}
use Rattle.verdicts.proofs.Counts.{count_fits}
use Rattle.lent.specs.declared.AnswerLengths.{AnswerLengths}
use Rattle.lent.specs.Triangles.{lists_right}
use Rattle.questions.proofs.Counted.{lists_have_lengths}
use Rattle.ratios.specs.declared.Development.{Development}
use Rattle.ratios.specs.declared.Sums.{Sums}
use Rattle.ratios.specs.Ratios.{sums_of, sums_at, DevelopmentOf}
use Rattle.triangle.specs.Reading.{ReadingOf}
use Rattle.prepared_years.specs.declared.triangle.PreparedTriangle.{PreparedTriangle}
use Rattle.prepared_years.specs.Prepared.{ratios_of, Preparable}
use Rattle.prepared_years.specs.PreparedTriangles.{Prepared}
use Rattle.run_off.specs.MethodRead.{method_read}

-- a prepared triangle that is this one's: its years, their sums, and its last observed outstandings
pub record PreparedOf (t : Triangle) (p : PreparedTriangle) : Type 0 where
  pub n_is : p.n ≡ n t
  pub sums_are : (k : ℕ) → 1 ≤ k → k < n t → sums_at (ratios_of p.years) k ≡ sums t k
  pub outstandings_are : (i : ℕ) → 1 ≤ i → i ≤ n t → entry p.outstandings i ≡ R t i (n t + 1 - i)

-- ---- What questions 1 to 8 leave of what was read

module _ {t : Triangle} {ratios : List Sums} {outstandings : List ℤ} (d : DevelopmentOf t ratios outstandings) where
  -- the sums of development year k
  sums_read : (k : ℕ) → 1 ≤ k → k < n t → sums_at ratios k ≡ sums t k
  sums_read k p q = let e : k - 1 + 1 ≡ k = omega arith in d.year (k - 1) (omega arith) ∙ ap (sums t) e

  -- the last observed outstanding of accident year i
  outstanding_read : (i : ℕ) → 1 ≤ i → i ≤ n t → entry outstandings i ≡ R t i (last_observed (method t) i)
  outstanding_read i p q =
      let e : i - 1 + 1 ≡ i = omega arith in
      let l : n t - (i - 1) ≡ last_observed (method t) i = omega arith in
      sym (entry_place outstandings i p) ∙ d.outstanding (i - 1) (omega arith) ∙ ap₂ (R t) e l

  module _ (ok : Observed t) (q₈ : question_8 t ≡ accepted) where
    sums_right : (k : ℕ) → 1 ≤ k → k < n t → SumsInRange (sums t k)
    sums_right k p q = sums_in_range t ok k p q (exposures_positive t q₈ k p q)

    preparable : Preparable (n t) ratios outstandings
    preparable = record {
      ratios_in_range = record { most = ok.years.most; year = λ j h. rw (d.year j h) (sums_right (j + 1) (omega arith) h) };
      outstanding = λ i first last. rw (outstanding_read i first last) (R_in_range t ok i (last_observed (method t) i) first (omega arith));
    }

  -- and of what was prepared
  prepared_of : {p : PreparedTriangle} → Prepared (n t) ratios outstandings p → PreparedOf t p
  prepared_of r = record {
    n_is = r.n_is;
    sums_are = λ k first last. ap sums_of (r.year (k - 1) (omega arith)) ∙ sums_read k first last;
    outstandings_are = λ i first last. ap (λ (xs : List ℤ). entry xs i) r.outstandings_are ∙ outstanding_read i first last;
  }

-- ---- The rows of a triangle that is prepared

module _ {t : Triangle} {p : PreparedTriangle} (r : PreparedOf t p) where
  pub rows_as_in_the_triangle : (i : ℕ) → 1 ≤ i → i ≤ p.n → SameRow (method_read p) (method t) i
  rows_as_in_the_triangle i first last = record {
    years = r.n_is;
    observed = r.outstandings_are i first (omega (arith, r.n_is)) ∙ ap (λ (k : ℕ). R t i (k + 1 - i)) (sym r.n_is);
    year = λ k c x. ap (next_year x) (r.sums_are k (omega (arith, c.after, c.row)) (omega (arith, c.year, r.n_is)));
  }

  question_9_as_in_the_triangle : question_9 (method_read p) ≡ question_9 (method t)
  question_9_as_in_the_triangle = same_question_9 r.n_is rows_as_in_the_triangle

  pub future_as_in_the_triangle : future (method_read p) ≡ future (method t)
  future_as_in_the_triangle = same_future r.n_is rows_as_in_the_triangle

  pub reserves_as_in_the_triangle : reserves (method_read p) ≡ reserves (method t)
  reserves_as_in_the_triangle = same_reserves r.n_is rows_as_in_the_triangle

  -- question 9 completes the verdict
  pub with_question_9 : (right : Bool) {v : Verdict} → observed_questions t right ≡ accepted → v ≡ question_9 (method_read p) → v ≡ questions t right
  unfolding questions
  with_question_9 right passed q = went_on passed (q ∙ question_9_as_in_the_triangle)

-- ---- A triangle that questions 1 to 8 accept

module _ (t : Triangle) (answers : Option AnswerLengths) (passed : observed_questions t (lists_right t answers) ≡ accepted) where
  both : (input_questions t (lists_right t answers) ≡ accepted) × (question_8 t ≡ accepted)
  unfolding observed_questions
  both = then_accepted (input_questions t (lists_right t answers)) (question_8 t) passed

  pub question_1_passed : question_1 t.years ≡ accepted
  unfolding input_questions
  question_1_passed = (then_accepted (question_1 t.years) _ both.0).0

  pub observed : Observed t
  observed = observed_triangle t (lists_right t answers) (lists_have_lengths t answers) both.0

-- the answer lists have their lengths
pub lists_whole : (t : Triangle) (answers : AnswerLengths) → observed_questions t (lists_right t (Some answers)) ≡ accepted
    → (answers.future ≡ future_length (n t)) × (answers.reserves ≡ reserves_length (n t))
lists_whole t answers passed =
    let l = (says_lengths t answers.future answers.reserves).sound
    (facts.question_3_said_yes t (lengths_right t answers.future answers.reserves) (both t (Some answers) passed).0) in
    (l.future, l.reserves)

-- ---- A triangle that is read

module _ {t : Triangle} {answers : Option AnswerLengths} {d : Development} (e : ReadingOf t answers (Ok d)) where
  pub accepted_reading : observed_questions t (lists_right t answers) ≡ accepted
  accepted_reading = sym e.verdict_is

  pub years_observed : Observed t
  years_observed = observed t answers accepted_reading

  -- its number of years, as the code casts it
  pub years_fit : T (non_neg t.years) × Fits w64 (nat_abs t.years)
  years_fit = let y = years_observed.years in count_fits t.years y.counted y.most

  pub can_be_prepared : Preparable (n t) d.ratios d.outstandings
  can_be_prepared = preparable e.development_is years_observed (both t answers accepted_reading).1

  pub prepared_reading : {p : PreparedTriangle} → Prepared (n t) d.ratios d.outstandings p → PreparedOf t p
  prepared_reading r = prepared_of e.development_is r
