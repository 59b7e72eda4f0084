-- A walk down the accident years of one development year: the sums grow, and each outstanding moves on.
use Rattle.std.proofs.Common.{rules, ◌+◌, ◌<◌, length, get_or, pos, ◌∙◌, arith}
use Rattle.integers.proofs.MachineArithmetic.{Held, held}
use Rattle.method.specs.Triangle.{amounts_length}
use Rattle.ratios.proofs.DevelopmentYear.{before_first_row, weight_inside, amount_inside, addable, movable, next_row, all_rows}
use Rattle.ratios.proofs.development_year.Goals as goal
use Rattle.ratios.proofs.development_year.Goals.{In-loop-r}

-- the accident year at hand is one of those that are summed
more : (c : In-loop-r) → c.loop-r.r + c.args.k < c.args.n
more c = omega (arith, c.requires.last)

-- its places are inside their lists
weights_inside : (c : In-loop-r) → c.loop-r.weight_at < length c.args.triangle.weights.now
weights_inside c = weight_inside _ _ _ _ _ _ c.requires _ _ _ _ _ c.loop-r.invariant (more c)

amounts_inside : (c : In-loop-r) → c.loop-r.amount_at < amounts_length c.args.n
amounts_inside c = amount_inside _ _ _ _ _ _ c.requires _ _ _ _ _ c.loop-r.invariant (more c)

pub loop-r-init : goal.loop-r-init
loop-r-init c = before_first_row _ _ _ _ _ _ c.requires

pub offset_bounds-triangle-amount_at : goal.offset_bounds-triangle-amount_at
offset_bounds-triangle-amount_at c =
    let l = amounts_inside (goal.at.offset_bounds-triangle-amount_at c).In-loop-r in
    let m = c.requires.payments_length in
    search rules

pub bounds-triangle-amount_at : goal.bounds-triangle-amount_at
bounds-triangle-amount_at c = omega (arith, amounts_inside (goal.at.bounds-triangle-amount_at c).In-loop-r, c.requires.payments_length)

pub offset_bounds-triangle-amount_at-in-loop-r : goal.offset_bounds-triangle-amount_at-in-loop-r
offset_bounds-triangle-amount_at-in-loop-r c =
    let l = amounts_inside (goal.at.offset_bounds-triangle-amount_at-in-loop-r c).In-loop-r in
    let m = c.requires.payments_length in
    search rules

pub bounds-triangle-amount_at-in-loop-r : goal.bounds-triangle-amount_at-in-loop-r
bounds-triangle-amount_at-in-loop-r c = omega (arith, amounts_inside (goal.at.bounds-triangle-amount_at-in-loop-r c).In-loop-r, c.requires.adjustments_length)

pub offset_bounds-triangle-weight_at : goal.offset_bounds-triangle-weight_at
offset_bounds-triangle-weight_at c =
    let here = (goal.at.offset_bounds-triangle-weight_at c).In-loop-r in
    let l = weights_inside here in
    let m = c.requires.weights_length_right in
    search rules

pub bounds-triangle-weight_at : goal.bounds-triangle-weight_at
bounds-triangle-weight_at c = weights_inside (goal.at.bounds-triangle-weight_at c).In-loop-r

pub with_row-sums-requires : goal.with_row-sums-requires
with_row-sums-requires c =
    let weight : Held (get_or c.args.triangle.weights.now c.loop-r.weight_at (pos 0)) = search rules in
    let payment : Held (get_or c.args.triangle.payments.now c.loop-r.amount_at (pos 0)) = search rules in
    let adjustment : Held (get_or c.args.triangle.adjustments.now c.loop-r.amount_at (pos 0)) = search rules in
    let outstanding : Held (get_or c.loop-r.outstandings c.loop-r.r (pos 0)) = search rules in
    simp (weight, payment, adjustment, outstanding)
    (addable _ _ _ _ _ _ c.requires _ _ _ _ _ c.loop-r.invariant (more (goal.at.with_row-sums-requires c).In-loop-r))

pub next_outstanding-requires : goal.next_outstanding-requires
next_outstanding-requires c =
    let payment : Held (get_or c.args.triangle.payments.now c.loop-r.amount_at (pos 0)) = search rules in
    let adjustment : Held (get_or c.args.triangle.adjustments.now c.loop-r.amount_at (pos 0)) = search rules in
    let outstanding : Held (get_or c.loop-r.outstandings c.loop-r.r (pos 0)) = search rules in
    simp (payment, adjustment, outstanding)
    (movable _ _ _ _ _ _ c.requires _ _ _ _ _ c.loop-r.invariant (more (goal.at.next_outstanding-requires c).In-loop-r))

pub overflow_add-weight_at : goal.overflow_add-weight_at
overflow_add-weight_at c =
    let l = weights_inside (goal.at.overflow_add-weight_at c).In-loop-r in
    let m = c.requires.weights_length_right in
    search rules

pub overflow_add-amount_at : goal.overflow_add-amount_at
overflow_add-amount_at c =
    let l = amounts_inside (goal.at.overflow_add-amount_at c).In-loop-r in
    let m = c.requires.payments_length in
    search rules

pub loop-r-preserved : goal.loop-r-preserved
loop-r-preserved c =
    let weight : Held (get_or c.args.triangle.weights.now c.loop-r.weight_at (pos 0)) = search rules in
    let payment : Held (get_or c.args.triangle.payments.now c.loop-r.amount_at (pos 0)) = search rules in
    let adjustment : Held (get_or c.args.triangle.adjustments.now c.loop-r.amount_at (pos 0)) = search rules in
    let outstanding : Held (get_or c.loop-r.outstandings c.loop-r.r (pos 0)) = search rules in
    next_row _ _ _ _ _ _ c.requires _ _ _ _ _ c.loop-r.invariant (more (goal.at.loop-r-preserved c).In-loop-r) _ _
    (simp (weight, payment, adjustment, outstanding) at c.with_row-sums.ensures)
    (held c.next_outstanding.result c.next_outstanding.type_inv
    ∙ (simp (payment, adjustment, outstanding) at c.next_outstanding.ensures))

pub returns : goal.returns
returns c =
    let all = all_rows _ _ _ _ _ _ c.requires _ _ _ _ _ c.loop-r.invariant (omega arith) in
    record { result_value = all.0; moved_on = all.1 }
