-- As much of the text as has room is put where the line ends.
use borrow.Author.Rules.{rules}
use Rattle.printed.proofs.LineTexts.{text_put}
use Rattle.printed.proofs.line.Line.with_text.Goals as goal

pub returns : goal.returns
returns c =
    let args = c.args in
    text_put args.self args.text.now c.min-start.result c.min-count.result c.copy_from_slice.new.self (search rules) c.min-start.ensures c.min-count.ensures c.copy_from_slice.ensures.after
