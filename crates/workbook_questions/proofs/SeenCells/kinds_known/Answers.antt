-- Each cell has a place in the list.
use Rattle.std.proofs.Common.{rules}
use Rattle.cells.proofs.CellWalk.{place_inside}
use Rattle.workbook_questions.proofs.SeenCells.kinds_known.Goals as goal

pub first_refusal-requires-clause-askable : goal.first_refusal-requires-clause-askable
first_refusal-requires-clause-askable c = λ r j h. let right = c.args.self.right in let place = place_inside c.args.self.n r j right.most h in search rules
