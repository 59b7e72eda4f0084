-- Row after row, both lists filling from the left.
use borrow.Author.Rules.{rules}
use native.Mathlib.Omega.{arith}
use Rattle.std.proofs.lemmas.Result.{err_from_is_err_and}
use Rattle.integers.proofs.MachineArithmetic.{Held}
use Rattle.calls.proofs.RowsLoop.{no_row_projected, future_room, row_refused, next_row, all_rows}
use Rattle.calls.proofs.all_rows.project.Goals as goal

pub loop-r-init : goal.loop-r-init
loop-r-init c = no_row_projected c.requires.0 c.requires.1

pub project_row-requires-clause-i_in_bounds : goal.project_row-requires-clause-i_in_bounds
project_row-requires-clause-i_in_bounds c = future_room c.loop-r.invariant (omega arith) c.future_length.ensures

pub returns-in_err-row : goal.returns-in_err-row
returns-in_err-row c =
    let p = err_from_is_err_and c.from_residual.result c.from_residual.ensures.1 in
    rw (p.1, p.2) (row_refused c.loop-r.invariant (omega arith) c.future_length.ensures c.in_err-row.ensures)

pub loop-r-preserved : goal.loop-r-preserved
loop-r-preserved c =
    let x = c.in_ok-row.row in
    let paid : Held x.paid.0 = search rules in
    let incurred : Held x.incurred.0 = search rules in
    let closing : Held x.closing.0 = search rules in
    rw (simp (paid, incurred, closing) at c.write_three.ensures) (next_row c.loop-r.invariant (omega arith) c.future_length.ensures c.in_ok-row.ensures)

pub returns : goal.returns
returns c = all_rows c.loop-r.invariant (omega arith)
