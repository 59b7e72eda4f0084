-- By whether the text has the heading.
use mathlib.Core.Path.{ap, ap₂, ◌∙◌}
use native.Mathlib.Omega.{arith}
use lib.IntN.{pos}
use mir.Syntax.{w64}
use mir.Facts.{to_z_pos}
use Rattle.std.specs.Prelude.{Some}
use Rattle.text.specs.Lines.{others_of}
use Rattle.headings.specs.Places.{rows_in, HeadingFound}
use Rattle.headings.proofs.HeadingSearch.{rows_counted}
use Rattle.line_kinds.specs.declared.kinds.LineKind.TheVariants.{Payments}
use Rattle.triangle_text.proofs.Given.{no_rows}
use Rattle.triangle_text.proofs.reading.years_in.Goals as goal
use Rattle.triangle_text.proofs.reading.years_in.Goals.{After-count_rows}

found : (c : After-count_rows) → HeadingFound c.args.short.text.bytes.now c.args.short.text.separator Payments (Some c.in-Some.payments)
found c = rw c.in-Some.is at c.find_heading.ensures

pub overflow_cast-result : goal.overflow_cast-result
overflow_cast-result c = omega (arith, rows_counted (found (goal.at.overflow_cast-result c).After-count_rows), c.count_rows.ensures.1, c.args.short.short)

pub returns-in-Some : goal.returns-in-Some
returns-in-Some c =
    let at = found (goal.at.returns-in-Some c).After-count_rows in
    to_z_pos w64 {n = c.count_rows.result} (omega (arith, rows_counted at, c.count_rows.ensures.1, c.args.short.short))
    ∙ ap pos (c.count_rows.ensures.0 ∙ ap₂ rows_in at.separator_is (ap others_of at.lines_are))

pub returns-in-None : goal.returns-in-None
returns-in-None c = no_rows (rw c.in-None.is at c.find_heading.ensures)
