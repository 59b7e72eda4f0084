-- Each amount, where the walk says that its cell stands (`CellWalk`).
use Rattle.std.proofs.Common.{rules, pos}
use Rattle.method.specs.Triangle.{cell}
use Rattle.method.specs.Tests.{amount_right}
use Rattle.cells.specs.Cells.{whole_list}
use Rattle.cells.proofs.CellWalk.{place_inside, cell_here}
use Rattle.cells.proofs.one_list.amounts_right.Goals as goal

pub first_refusal-requires-clause-askable : goal.first_refusal-requires-clause-askable
first_refusal-requires-clause-askable c = λ r j h. let place = place_inside c.args.n r j c.requires.0 h in search rules

pub returns : goal.returns
unfolding whole_list
returns c =
    c.first_refusal.ensures (λ i k. amount_right c.args.cut i k (cell (pos 0) c.args.n c.args.list.now i k))
    (λ r j h b answered. rw cell_here (search rules))
