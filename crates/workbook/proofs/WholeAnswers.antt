-- The whole answer of the call with a workbook's cells, accepted and refused.
use mathlib.Core.Path.{◌≡◌, refl, sym, ap, ◌∙◌}
use Prim.Native.Nat.{ℕ}
use lib.IntN.{pos}
use lib.ListN.{replicate}
use Rattle.floats.specs.WholeNumbers.{plus_zero}
use Rattle.method.specs.RunOff.{Method, future, reserves, method}
use Rattle.method.specs.Verdicts.{Place, Verdict, accepted, refused}
use Rattle.workbook.specs.Workbook.{Workbook, converted}
use Rattle.workbook.specs.Pairs.{pairs}
use Rattle.workbook.specs.Questions.{workbook_lengths_right, workbook_questions}
use Rattle.workbook.specs.Answers.{filled_in_pairs, workbook_answer}

pub filled_in_pairs_verdict : (m : Method) (f p : ℕ) (v : Verdict) → (filled_in_pairs m f p v).verdict ≡ v
unfolding filled_in_pairs
filled_in_pairs_verdict m f p accepted = refl
filled_in_pairs_verdict m f p (refused question q) = refl

pub filled_in_pairs_zeros : (m : Method) (f p : ℕ) (v : Verdict) → ¬ ((filled_in_pairs m f p v).verdict ≡ accepted)
    → ((filled_in_pairs m f p v).future ≡ replicate f (pos 0)) × ((filled_in_pairs m f p v).pairs ≡ replicate p plus_zero)
unfolding filled_in_pairs
filled_in_pairs_zeros m f p accepted h = absurd (h refl)
filled_in_pairs_zeros m f p (refused question q) h = (refl, refl)

module _ (b : Workbook) (f p : ℕ) where
  pub workbook_questions_accepted : (workbook_answer b f p).verdict ≡ accepted → workbook_questions b (workbook_lengths_right b f p) ≡ accepted
  unfolding workbook_answer
  workbook_questions_accepted e = sym (filled_in_pairs_verdict (method (converted b)) f p _) ∙ e

  pub accepted_workbook_answer : workbook_questions b (workbook_lengths_right b f p) ≡ accepted
      → workbook_answer b f p ≡ record { verdict = accepted; future = future (method (converted b)); pairs = pairs (reserves (method (converted b))) }
  unfolding workbook_answer filled_in_pairs
  accepted_workbook_answer e = ap (filled_in_pairs (method (converted b)) f p) e

  pub refused_workbook_answer : (question : ℕ) (q : Place) → workbook_questions b (workbook_lengths_right b f p) ≡ refused question q
      → workbook_answer b f p ≡ record { verdict = refused question q; future = replicate f (pos 0); pairs = replicate p plus_zero }
  unfolding workbook_answer filled_in_pairs
  refused_workbook_answer question q e = ap (filled_in_pairs (method (converted b)) f p) e
