-- A scan of the exposures.
use Rattle.std.proofs.Common.{rules, ◌≡◌, ◌-◌, get_or, sym, ap, ◌∙◌, arith}
use Rattle.integers.proofs.MachineArithmetic.{Held}
use Rattle.method.proofs.FirstRefusal.{none_asked, all_accepted}
use Rattle.verdicts.specs.Verdicts.{verdict_of}
use Rattle.verdicts.proofs.Refusals.{handed_on}
use Rattle.ratios.specs.Ratios.{no_sums}
use Rattle.triangle.specs.Reading.{exposure_of_year, exposures}
use Rattle.triangle.proofs.Exposures.{year_passed, year_refused}
use Rattle.triangle.proofs.reading.question_8.Goals as goal
use Rattle.triangle.proofs.reading.question_8.Goals.{After-asked_at}

-- the year at hand, as document 01 asks of it
asked : (c : After-asked_at) → verdict_of c.asked_at.result ≡ exposure_of_year c.args.ratios.now c.loop-k.k
unfolding exposure_of_year
asked c = let exposure : Held (get_or c.args.ratios.now (c.loop-k.k - 1) no_sums).exposure = search rules in simp exposure at c.asked_at.ensures

pub loop-k-init : goal.loop-k-init
loop-k-init c = none_asked _ _

pub returns-in_err-asked_at : goal.returns-in_err-asked_at
unfolding exposures
returns-in_err-asked_at c =
    handed_on _ c.in_err-asked_at.field-0.0 c.from_residual.ensures.1
    ∙ sym (year_refused _ _ _ c.loop-k.invariant c.loop-k.auto.k c.loop-k-test.true
    (sym (asked (goal.at.returns-in_err-asked_at c).After-asked_at) ∙ ap verdict_of c.in_err-asked_at.was))

pub loop-k-preserved : goal.loop-k-preserved
loop-k-preserved c =
    year_passed _ _ _ c.loop-k.invariant c.loop-k.auto.k c.loop-k-test.true
    (sym (asked (goal.at.loop-k-preserved c).After-asked_at) ∙ ap verdict_of c.in_ok-asked_at.was)

pub returns : goal.returns
unfolding exposures
returns c = sym (all_accepted c.loop-k.invariant (omega arith))
