-- As many spaces as have room.
use Rattle.printed.proofs.LineTexts.{spaces_with_room}
use Rattle.printed.proofs.line.Line.with_spaces.Goals as goal

pub returns : goal.returns
returns c = spaces_with_room c.args.count (rw c.min.ensures at c.with_text.ensures)
