-- What a `?` hands on: the refusal that it met, with whatever would have been answered there.
use Rattle.std.proofs.Common.{◌≡◌, Result, Err, sym, ap, ◌∙◌}
use Rattle.std.specs.Result.{IsErrAnd}
use Rattle.std.proofs.lemmas.Result.{err_from_is_err_and}
use Rattle.method.specs.Verdicts.{Verdict, ◌then◌}
use Rattle.method.proofs.FirstRefusal.{then_stops}
use Rattle.verdicts.specs.declared.verdict.Refusal.{Refusal}
use Rattle.verdicts.specs.Verdicts.{refused_by, verdict_of}

pub handed_on : {A : Type 0} (r : Result A Refusal) (e : Refusal) → IsErrAnd r (λ x. x ≡ e) → verdict_of r ≡ refused_by e
handed_on r e h = let (x, is, same) = err_from_is_err_and r h in ap verdict_of is ∙ ap refused_by same

-- of the first of several questions: the others are not asked
pub stopped_at : {A B : Type 0} (r : Result A Refusal) {s : Result B Refusal} {e : Refusal} {v : Verdict} (w : Verdict)
    → verdict_of s ≡ v → s ≡ Err e → IsErrAnd r (λ x. x ≡ e) → verdict_of r ≡ (v then w)
stopped_at r {e = e} w asked is h = handed_on r e h ∙ sym (then_stops w (sym asked ∙ ap verdict_of is))
