-- Row after row, from the left. Each row is a part of the list that is lent, filled, and back.
use mathlib.Core.Path.{◌≡◌, subst, ap, ap₂, ◌∙◌}
use Prim.Native.Nat.{ℕ, ◌+◌, ◌-◌, ◌≤◌}
use native.Mathlib.Omega.{arith}
use borrow.Rule.Slice.PartMut.{put_mid}
use lib.ListN.{length, take, drop, length-drop}
use lib.Seq.{length-take-le}
use Rattle.lists.proofs.Parts.{PartBack, part_back}
use Rattle.blocks.specs.Blocks.{default_row}
use Rattle.blocks.proofs.WeightsFilled.{no_row_filled, row_fits, row_back, all_rows_filled, all_counted}
use Rattle.blocks.proofs.weights.default_weights.Goals as goal
use Rattle.blocks.proofs.weights.default_weights.Goals.{After-cells_before-start}

pub loop-rows-init : goal.loop-rows-init
loop-rows-init c = no_row_filled _ _ _ c.requires.1

-- the row that comes next is in the list
row_within : (c : After-cells_before-start) → c.cells_before-start.result + (c.args.n - c.loop-rows.rows) ≤ length c.loop-rows.list
row_within c = omega (arith, row_fits c.loop-rows.invariant c.loop-rows-test.true, c.cells_before-start.ensures)

pub overflow_add-row : goal.overflow_add-row
overflow_add-row c = omega (arith, row_within (goal.at.overflow_add-row c).After-cells_before-start)

pub offset_bounds-list-start : goal.offset_bounds-list-start
offset_bounds-list-start c = omega (arith, row_within (goal.at.offset_bounds-list-start c).After-cells_before-start)

pub slice_bounds-row-end : goal.slice_bounds-row-end
slice_bounds-row-end c = omega (arith, row_within (goal.at.slice_bounds-row-end c).After-cells_before-start)

pub loop-rows-preserved : goal.loop-rows-preserved
loop-rows-preserved c =
    let n = c.args.n in
    let turn = c.loop-rows in
    let start = c.cells_before-start.result in
    let cells = start + (n - turn.rows) - start in
    let within = row_within (goal.at.loop-rows-preserved c).After-cells_before-start in
    let fits : cells ≤ length (drop start turn.list) = omega (arith, length-drop start turn.list, within) in
    let size : length (take cells (drop start turn.list)) ≡ n - turn.rows = length-take-le cells (drop start turn.list) fits ∙ (omega arith) in
    let back = part_back turn.list c.fill_row.new.row start cells (omega (arith, within)) c.fill_row.auto.row in
    let there = subst (λ (at : ℕ). PartBack turn.list (put_mid start cells turn.list c.fill_row.new.row) c.fill_row.new.row at) c.cells_before-start.ensures back in
    row_back turn.invariant c.loop-rows-test.true there (c.fill_row.auto.row ∙ size)
    (c.fill_row.ensures ∙ ap₂ default_row c.saturating_sub.ensures size)

pub shape_of-list : goal.shape_of-list
shape_of-list c = c.loop-rows.invariant.same_length

pub returns : goal.returns
returns c =
    let all = c.amounts_length.ensures in
    (all ∙ all_counted c.loop-rows.invariant (omega arith), ap (λ n. take n c.loop-rows.list) all ∙ all_rows_filled c.loop-rows.invariant (omega arith))
