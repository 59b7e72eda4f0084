-- What was read, stored.
use mathlib.Core.Path.{refl}
use Rattle.std.proofs.lemmas.Result.{err_from_is_err_and}
use Rattle.triangle.proofs.reading.read_into.Goals as goal

pub returns-in_err-development : goal.returns-in_err-development
returns-in_err-development c =
    let p = err_from_is_err_and c.from_residual.result c.from_residual.ensures.1 in
    rw (p.1, p.2) (c.in_err-development.ensures, refl)

pub returns : goal.returns
returns c = c.in_ok-development.ensures
