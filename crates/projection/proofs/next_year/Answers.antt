-- The two shares, and the outstanding that they lead to.
use Rattle.std.proofs.Common.{◌≡◌, sym, ◌∙◌, to_z-of_z, Some}
use Rattle.method.specs.ProjectedYear.{share}
use Rattle.ratios.specs.Ratios.{sums_of}
use Rattle.prepared_years.specs.Prepared.{year_sums}
use Rattle.share.specs.Share.{share_or_too_large}
use Rattle.projection.proofs.Years.{payment_too_large, adjustment_too_large, outstanding_too_large, all_within, NumbersFit, numbers_fit}
use Rattle.projection.proofs.next_year.Goals as goal
use Rattle.projection.proofs.next_year.Goals.{In_ok-payment, In_ok-adjustment}

pub returns-in_err-payment : goal.returns-in_err-payment
returns-in_err-payment c =
    c.from_residual.ensures ∙ payment_too_large c.requires.0 (c.args.year.ready c.requires.1).sums_in_range (sym c.in_err-payment.was ∙ c.rounded_share.ensures)

payment_rounded : (c : In_ok-payment) → let s = sums_of (year_sums c.args.year) in
    Some c.in_ok-payment.payment ≡ share_or_too_large (share c.args.outstanding.0 s.P s.D)
payment_rounded c = sym c.in_ok-payment.was ∙ c.rounded_share.ensures

pub returns-in_err-adjustment : goal.returns-in_err-adjustment
returns-in_err-adjustment c =
    let here = goal.at.returns-in_err-adjustment c in
    c.from_residual-in_err-adjustment.ensures
    ∙ adjustment_too_large c.requires.0 (c.args.year.ready c.requires.1).sums_in_range (payment_rounded here.In_ok-payment) (sym c.in_err-adjustment.was ∙ c.rounded_share-2.ensures)

adjustment_rounded : (c : In_ok-adjustment) → let s = sums_of (year_sums c.args.year) in
    Some c.in_ok-adjustment.adjustment ≡ share_or_too_large (share c.args.outstanding.0 s.Q s.D)
adjustment_rounded c = sym c.in_ok-adjustment.was ∙ c.rounded_share-2.ensures

-- the two rounded shares and the outstanding are numbers of 64 bits, and so is what they make
fits : (c : In_ok-adjustment) → NumbersFit c.args.outstanding.0 c.in_ok-payment.payment.0 c.in_ok-adjustment.adjustment.0
fits c = numbers_fit _ _ c.requires.0 (sym c.in_ok-payment.was ∙ c.rounded_share.ensures) (adjustment_rounded c)

pub overflow_sub-next : goal.overflow_sub-next
overflow_sub-next c =
    let f = fits (goal.at.overflow_sub-next c).In_ok-adjustment in
    simp (to_z-of_z f.outstanding, to_z-of_z f.payment) f.less_payment

pub overflow_add-next : goal.overflow_add-next
overflow_add-next c =
    let f = fits (goal.at.overflow_add-next c).In_ok-adjustment in
    simp (to_z-of_z f.outstanding, to_z-of_z f.payment, to_z-of_z f.adjustment, to_z-of_z f.less_payment) f.next

pub returns-then-next-gt-GREATEST_FIGURE : goal.returns-then-next-gt-GREATEST_FIGURE
returns-then-next-gt-GREATEST_FIGURE c =
    let a = goal.at.returns-then-next-gt-GREATEST_FIGURE c in
    let f = fits a.In_ok-adjustment in
    outstanding_too_large c.requires.0 (c.args.year.ready c.requires.1).sums_in_range (payment_rounded a.In_ok-payment) (adjustment_rounded a.In_ok-adjustment)
    (simp (to_z-of_z f.outstanding, to_z-of_z f.payment, to_z-of_z f.adjustment, to_z-of_z f.less_payment, to_z-of_z f.next) at c.if-next-gt-GREATEST_FIGURE.true)

pub returns : goal.returns
returns c =
    let a = goal.at.returns c in
    let f = fits a.In_ok-adjustment in
    simp (to_z-of_z f.outstanding, to_z-of_z f.payment, to_z-of_z f.adjustment, to_z-of_z f.less_payment, to_z-of_z f.next)
    (all_within c.requires.0 (c.args.year.ready c.requires.1).sums_in_range (payment_rounded a.In_ok-payment) (adjustment_rounded a.In_ok-adjustment)
    (simp (to_z-of_z f.outstanding, to_z-of_z f.payment, to_z-of_z f.adjustment, to_z-of_z f.less_payment, to_z-of_z f.next) at c.if-next-gt-GREATEST_FIGURE.false))
