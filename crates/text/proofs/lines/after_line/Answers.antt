-- What is left after the first line feed.
use borrow.Author.Rules.{rules}
use Rattle.text.specs.Bytes.{line_feed}
use Rattle.text.specs.Search.{is_byte}
use Rattle.text.proofs.FirstLines.{line_passed}
use Rattle.text.proofs.lines.after_line.Goals as goal

pub returns : goal.returns
returns c = line_passed _ _ (c.after.ensures (is_byte line_feed) (λ byte answer h. search rules))
