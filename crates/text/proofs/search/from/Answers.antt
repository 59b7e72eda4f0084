-- What is from the place on that is found.
use mathlib.Core.Path.{◌∙◌}
use Rattle.lists.proofs.Parts.{whole_rest}
use Rattle.text.proofs.Searches.{from_found}
use Rattle.text.proofs.search.from.Goals as goal

pub returns : goal.returns
returns g c = λ test computes.
    whole_rest c.args.text.now c.find.result ∙ from_found test c.args.text.now c.find.result (c.find.ensures.first test computes)
