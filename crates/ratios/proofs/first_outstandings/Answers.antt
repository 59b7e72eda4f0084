-- A walk down the accident years: each outstanding goes to its place.
use Rattle.std.proofs.Common.{rules, ◌≡◌, suc, ◌<◌, get_or, pos, w64, to_z, of_z, ◌∙◌, arith}
use Rattle.integers.proofs.MachineArithmetic.{Held, held}
use Rattle.method.specs.Triangle.{amounts_length, entry}
use Rattle.ratios.proofs.FirstYear.{none_placed, first_inside, movable, one_more_placed, all_placed}
use Rattle.ratios.proofs.first_outstandings.Goals as goal
use Rattle.ratios.proofs.first_outstandings.Goals.{After-opening_of, After-cells_before-start}

-- the first cell of the row at hand is inside both lists
inside : (c : After-cells_before-start) → c.cells_before-start.result < amounts_length c.args.n
inside c = first_inside _ _ _ _ c.requires _ _ c.loop-r.invariant (omega arith) _ c.cells_before-start.ensures

opened : (c : After-opening_of) → to_z w64 (of_z w64 c.opening_of.result) ≡ entry c.args.triangle.openings.now (suc c.loop-r.r)
opened c = held c.opening_of.result c.opening_of.type_inv ∙ c.opening_of.ensures

pub loop-r-init : goal.loop-r-init
loop-r-init c = none_placed _ _ _ _ c.requires

pub offset_bounds-triangle-start : goal.offset_bounds-triangle-start
offset_bounds-triangle-start c = let l = inside (goal.at.offset_bounds-triangle-start c).After-cells_before-start in let m = c.requires.payments_length in search rules

pub bounds-triangle-start : goal.bounds-triangle-start
bounds-triangle-start c = omega (arith, inside (goal.at.bounds-triangle-start c).After-cells_before-start, c.requires.payments_length)

pub offset_bounds-triangle-start-in-loop-r : goal.offset_bounds-triangle-start-in-loop-r
offset_bounds-triangle-start-in-loop-r c =
    let l = inside (goal.at.offset_bounds-triangle-start-in-loop-r c).After-cells_before-start in
    let m = c.requires.payments_length in
    search rules

pub bounds-triangle-start-in-loop-r : goal.bounds-triangle-start-in-loop-r
bounds-triangle-start-in-loop-r c = omega (arith, inside (goal.at.bounds-triangle-start-in-loop-r c).After-cells_before-start, c.requires.adjustments_length)

pub next_outstanding-requires : goal.next_outstanding-requires
next_outstanding-requires c =
    let payment : Held (get_or c.args.triangle.payments.now c.cells_before-start.result (pos 0)) = search rules in
    let adjustment : Held (get_or c.args.triangle.adjustments.now c.cells_before-start.result (pos 0)) = search rules in
    simp (opened (goal.at.next_outstanding-requires c).After-opening_of, payment, adjustment)
    (movable _ _ _ _ c.requires _ _ c.loop-r.invariant (omega arith) _ c.cells_before-start.ensures)

pub loop-r-preserved : goal.loop-r-preserved
loop-r-preserved c =
    let payment : Held (get_or c.args.triangle.payments.now c.cells_before-start.result (pos 0)) = search rules in
    let adjustment : Held (get_or c.args.triangle.adjustments.now c.cells_before-start.result (pos 0)) = search rules in
    one_more_placed _ _ _ _ c.requires _ _ c.loop-r.invariant (omega arith) _ c.cells_before-start.ensures _
    (held c.next_outstanding.result c.next_outstanding.type_inv
    ∙ (simp (opened (goal.at.loop-r-preserved c).After-opening_of, payment, adjustment) at c.next_outstanding.ensures))

pub returns : goal.returns
returns c = all_placed _ _ _ _ c.requires _ _ c.loop-r.invariant (omega arith)
