-- Questions 1 to 8, and then the cell of what was read.
use Rattle.std.proofs.Common.{Err}
use Rattle.std.proofs.lemmas.Result.{err_from_is_err_and}
use Rattle.single_cell.proofs.WholeCells.{refused_reading, with_demands}
use Rattle.single_cell.proofs.single_cell.Goals as goal

pub returns-in_err-read_into : goal.returns-in_err-read_into
returns-in_err-read_into c =
    let p = err_from_is_err_and c.from_residual.result c.from_residual.ensures.1 in
    rw (p.1, p.2) (with_demands _ _ _ (Err c.in_err-read_into.field-0.0) (refused_reading _ _ _ c.in_err-read_into.ensures.0))

pub projected_cell-requires : goal.projected_cell-requires
projected_cell-requires c = c.in_ok-read_into.ensures

pub returns : goal.returns
returns c = with_demands _ _ _ c.projected_cell.result c.projected_cell.ensures
