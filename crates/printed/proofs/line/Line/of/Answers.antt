-- A text after an empty line.
use Rattle.printed.proofs.LineTexts.{line_after}
use Rattle.printed.proofs.line.Line.of.Goals as goal

pub returns : goal.returns
returns c = line_after c.empty.ensures c.with_text.ensures
