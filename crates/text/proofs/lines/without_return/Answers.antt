-- By the library's test of all bytes.
use mathlib.Core.Path.{ap, ◌∙◌}
use mathlib.Core.Bool.{not}
use Rattle.text.specs.Bytes.{carriage_return}
use Rattle.text.proofs.Searches.{no_byte_by_any}
use Rattle.text.proofs.lines.without_return.Goals as goal

pub returns : goal.returns
returns c = ap not c.contains.ensures.value ∙ no_byte_by_any carriage_return c.args.text.now
