-- The table of examples, by one computation of the definitions.
use mathlib.Core.Path.{refl}
use Rattle.text.specs.Search.{before, from}
use Rattle.text.specs.Lines.{whole_lines, before_comment, lines}
use Rattle.line_parts.specs.Cells.{separator_in, without_last_spaces, trimmed, from_field}
use Rattle.met_text.specs.Met.{quoted_length, met_first, met_at}
use Rattle.met_text.specs.Examples.{MetHolds}

pub met_holds : MetHolds
unfolding before from whole_lines before_comment lines separator_in without_last_spaces trimmed from_field quoted_length met_first met_at
met_holds = refl
