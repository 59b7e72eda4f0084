-- A walk through the cells, row by row (`CellWalk`), with the outstanding of each from the one before (`RowOutstandings`).
use Rattle.std.proofs.Common.{rules, ◌≡◌, [], sym, ap, ◌∙◌, ◌+◌, ◌<◌, ◌+ℤ◌, ◌-ℤ◌, get_or, length, pos, w64, to_z, of_z, arith}
use Rattle.integers.proofs.MachineArithmetic.{Held, held}
use Rattle.method.specs.Triangle.{cells_before}
use Rattle.method.specs.Verdicts.{at, ask, each_cell}
use Rattle.method.specs.Tests.{outstanding_in_range}
use Rattle.method.specs.Questions.{question_6}
use Rattle.method.proofs.FirstRefusal.{none_asked, next_accepted, next_refused, all_accepted}
use Rattle.verdicts.specs.Verdicts.{verdict_of}
use Rattle.verdicts.proofs.Refusals.{handed_on}
use Rattle.cells.proofs.CellWalk.{row_is, place_inside}
use Rattle.outstandings.proofs.RowOutstandings.{before_first_year, movable, next_verdict, next_year_passed}
use Rattle.outstandings.proofs.question_6.Goals as goal
use Rattle.outstandings.proofs.question_6.Goals.{In-loop-j, After-asked_at}

pub loop-r-init : goal.loop-r-init
loop-r-init c = λ weights. none_asked _ _

pub loop-j-init : goal.loop-j-init
loop-j-init c = λ weights.
    let opened = held c.opening_of-outstanding.result c.opening_of-outstanding.type_inv ∙ c.opening_of-outstanding.ensures in
    simp opened (before_first_year _ _ _ _ weights _ c.requires _)

-- where the cell at hand stands
place : (c : In-loop-j) → let at = c.cells_before-start.result + c.loop-j.j in
    (at < length c.args.payments.now) × (at < length c.args.adjustments.now) × (at < 1024)
place c =
    let inside = place_inside c.args.n c.loop-r.r c.loop-j.j c.requires.most (omega arith) in
    rw c.cells_before-start.ensures (omega (arith, c.requires.payments_length), omega (arith, c.requires.adjustments_length), inside.1)

pub overflow_add-at : goal.overflow_add-at
overflow_add-at c = let here = place (goal.at.overflow_add-at c).In-loop-j in search rules

pub offset_bounds-payments-at : goal.offset_bounds-payments-at
offset_bounds-payments-at c = let here = place (goal.at.offset_bounds-payments-at c).In-loop-j in search rules

pub bounds-payments-at : goal.bounds-payments-at
bounds-payments-at c = (place (goal.at.bounds-payments-at c).In-loop-j).0

pub offset_bounds-adjustments-at : goal.offset_bounds-adjustments-at
offset_bounds-adjustments-at c = let here = place (goal.at.offset_bounds-adjustments-at c).In-loop-j in search rules

pub bounds-adjustments-at : goal.bounds-adjustments-at
bounds-adjustments-at c = (place (goal.at.bounds-adjustments-at c).In-loop-j).1

pub next_outstanding-outstanding-requires : goal.next_outstanding-outstanding-requires
next_outstanding-outstanding-requires c =
    let at = c.cells_before-start.result + c.loop-j.j in
    let read : Held (get_or c.args.payments.now at (pos 0)) × Held (get_or c.args.adjustments.now at (pos 0)) = (search rules, search rules) in
    let amounts = rw c.cells_before-start.ensures at read in
    simp (c.cells_before-start.ensures, amounts.0, amounts.1) (movable _ _ _ _ [] _ c.requires _ _ (omega arith) _ (c.loop-j.invariant []))

-- the outstanding of the next year, and the verdict on it
moved : (c : After-asked_at) → to_z w64 (of_z w64 c.next_outstanding-outstanding.result)
    ≡ to_z w64 c.loop-j.outstanding-bits
    -ℤ get_or c.args.payments.now (cells_before c.args.n c.loop-r.r + c.loop-j.j) (pos 0)
    +ℤ get_or c.args.adjustments.now (cells_before c.args.n c.loop-r.r + c.loop-j.j) (pos 0)
moved c =
    let at = c.cells_before-start.result + c.loop-j.j in
    let read : Held (get_or c.args.payments.now at (pos 0)) × Held (get_or c.args.adjustments.now at (pos 0)) = (search rules, search rules) in
    let amounts = rw c.cells_before-start.ensures at read in
    held c.next_outstanding-outstanding.result c.next_outstanding-outstanding.type_inv
    ∙ (simp (c.cells_before-start.ensures, amounts.0, amounts.1) at c.next_outstanding-outstanding.ensures)

verdict : (c : After-asked_at) → verdict_of c.asked_at.result
    ≡ ask (outstanding_in_range c.args.cut (c.loop-r.r + 1) (c.loop-j.j + 1) (to_z w64 (of_z w64 c.next_outstanding-outstanding.result))) 6 (at (c.loop-r.r + 1) (c.loop-j.j + 1))
verdict c = rw c.outstanding_in_range-in_range.ensures at c.asked_at.ensures

pub returns-in_err-asked_at : goal.returns-in_err-asked_at
unfolding question_6 each_cell
returns-in_err-asked_at c = λ weights.
    let here = (goal.at.returns-in_err-asked_at c).After-asked_at in
    let years = c.loop-j.invariant weights in
    let no = sym (next_verdict _ _ _ _ weights _ c.requires _ _ (omega arith) _ years _ (moved here)) ∙ sym (verdict here) ∙ ap verdict_of c.in_err-asked_at.was in
    let all = next_refused (c.loop-r.invariant weights) (omega arith) (sym (row_is _ _ _ _ (omega arith)) ∙ next_refused years.so_far (omega arith) no) in
    handed_on _ c.in_err-asked_at.field-0.0 c.from_residual.ensures.1 ∙ sym all

pub loop-j-preserved : goal.loop-j-preserved
loop-j-preserved c = λ weights.
    let here = (goal.at.loop-j-preserved c).After-asked_at in
    next_year_passed _ _ _ _ weights _ c.requires _ _ (omega arith) _ (c.loop-j.invariant weights) _ (moved here) (sym (verdict here) ∙ ap verdict_of c.in_ok-asked_at.was)

pub loop-r-preserved : goal.loop-r-preserved
loop-r-preserved c = λ weights. next_accepted (c.loop-r.invariant weights) (omega arith)
    (sym (row_is _ _ _ _ (omega arith)) ∙ all_accepted (c.loop-j.invariant weights).so_far (omega arith))

pub returns : goal.returns
unfolding question_6 each_cell
returns c = λ weights. sym (all_accepted (c.loop-r.invariant weights) (omega arith))
