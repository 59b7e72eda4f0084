-- The lines under their heading are read, where there is one.
use Rattle.triangle_text.proofs.LinesUnder.{lines_input}
use Rattle.triangle_text.proofs.BlocksUnder.{under_heading, no_heading}
use Rattle.triangle_text.proofs.reading.read_openings.Goals as goal

pub returns-in_default : goal.returns-in_default
returns-in_default c = no_heading (rw c.in_default.is at c.find_heading.ensures) _ _ _

pub read_lines-requires : goal.read_lines-requires
read_lines-requires c = lines_input (rw c.in-Some.is at c.find_heading.ensures) c.args.short.short c.requires

pub returns : goal.returns
returns c = under_heading (rw c.in-Some.is at c.find_heading.ensures) _ _ c.read_lines.ensures
