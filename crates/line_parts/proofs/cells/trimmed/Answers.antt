-- From the first byte that is no space, without the spaces that end the text.
use mathlib.Core.Path.{ap, ◌∙◌}
use borrow.Author.Rules.{rules}
use Rattle.text.specs.Search.{is_no_space}
use Rattle.line_parts.specs.Cells.{without_last_spaces, trimmed}
use Rattle.line_parts.proofs.cells.trimmed.Goals as goal

pub returns : goal.returns
unfolding trimmed
returns c = c.without_last_spaces.ensures ∙ ap without_last_spaces (c.from.ensures is_no_space (λ byte answer h. search rules))
