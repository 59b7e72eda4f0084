-- What is from the byte on that is found, without it.
use mathlib.Core.Path.{ap, ◌∙◌}
use borrow.Author.Rules.{rules}
use lib.ListN.{drop}
use Rattle.lists.proofs.Parts.{whole_rest}
use Rattle.text.proofs.Searches.{none_first}
use Rattle.text.proofs.search.after.Goals as goal

pub returns-then-is_empty : goal.returns-then-is_empty
returns-then-is_empty g c = λ test computes. none_first c.from-end.result.now (search rules) ∙ ap (drop 1) (c.from-end.ensures test computes)

pub returns-else-is_empty : goal.returns-else-is_empty
returns-else-is_empty g c = λ test computes. whole_rest c.from-end.result.now 1 ∙ ap (drop 1) (c.from-end.ensures test computes)
