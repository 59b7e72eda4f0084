-- What stands before the place that is found.
use mathlib.Core.Path.{ap, ◌∙◌}
use lib.ListN.{take}
use Rattle.text.proofs.Searches.{take_before}
use Rattle.text.proofs.search.before.Goals as goal

pub returns : goal.returns
returns g c = λ test computes. ap (λ place. take place c.args.text.now) (c.find.ensures.first test computes) ∙ take_before test c.args.text.now
