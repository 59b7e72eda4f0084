-- A text with more bytes than are shown.
use Rattle.std.proofs.Common.{arith}
use Rattle.std.proofs.lemmas.Grind.{common_steps}
use Rattle.met_text.specs.ShownText.{shown_text}
use Rattle.printed.proofs.LineTexts.{both_after}
use Rattle.met_text.proofs.shown_text.with_shown.Goals as goal

pub returns : goal.returns
unfolding shown_text
returns c = let both = both_after c.with_first_bytes-2.ensures c.with_text-2.ensures in grind (arith, common_steps)
