-- What was read, and then question 9.
use Rattle.std.proofs.lemmas.Result.{err_from_is_err_and}
use Rattle.calls.proofs.BothLists.{refused_before}
use Rattle.calls.proofs.reserve.fill.Goals as goal

pub returns-in_err-read_into : goal.returns-in_err-read_into
returns-in_err-read_into c =
    let p = err_from_is_err_and c.from_residual.result c.from_residual.ensures.1 in
    rw (p.1, p.2) (refused_before c.in_err-read_into.ensures.0)

pub fill_accepted-requires : goal.fill_accepted-requires
fill_accepted-requires c = c.in_ok-read_into.ensures
