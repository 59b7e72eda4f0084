-- A fault where it is cumulated and the cut is above 1; else the lines under its heading are read.
use mathlib.Core.Path.{◌≡◌, sym, ap, ◌∙◌}
use mathlib.Core.Bool.{◌&&◌}
use native.Mathlib.Omega.{arith}
use native.Mathlib.Nat.{sub-zero}
use lib.Dec.{ltb}
use Rattle.std.specs.Prelude.{Some}
use Rattle.text.specs.Lines.{lines}
use Rattle.headings.specs.Places.{is_cumulated, HeadingFound}
use Rattle.method.specs.Triangle.{amounts_length}
use Rattle.triangle_text.proofs.LinesUnder.{lines_input}
use Rattle.triangle_text.proofs.BlocksUnder.{under_heading, no_triangle, cumulated_with_cut, rows_under}
use Rattle.triangle_text.proofs.reading.read_triangle.Goals as goal
use Rattle.triangle_text.proofs.reading.read_triangle.Goals.{After-is_cumulated-cumulated}

pub returns-in_default : goal.returns-in_default
returns-in_default c = no_triangle (rw c.in_default.is at c.find_heading.ensures) c.args.n c.args.cut _ _

found : (c : After-is_cumulated-cumulated) → HeadingFound c.args.short.text.bytes.now c.args.short.text.separator c.args.heading (Some c.in-Some.found)
found c = rw c.in-Some.is at c.find_heading.ensures

-- the two tests are those of the definition
told : (c : After-is_cumulated-cumulated) → let a = c.args in
    (c.is_cumulated-cumulated.result && ltb 1 a.cut) ≡ (is_cumulated a.short.text.separator a.heading (lines a.short.text.bytes.now) && ltb 1 a.cut)
told c = ap (λ cumulated. cumulated && ltb 1 c.args.cut) c.is_cumulated-cumulated.ensures

pub returns-then-cumulated-cut : goal.returns-then-cumulated-cut
returns-then-cumulated-cut c =
    let a = c.args in
    let tested = (goal.at.returns-then-cumulated-cut c).After-is_cumulated-cumulated in
    cumulated_with_cut a.short.text.separator _ a.n a.cut _ _ a.heading (sym (told tested) ∙ c.if-cumulated-cut.true) (found tested).line_is

pub read_lines-requires : goal.read_lines-requires
read_lines-requires c =
    lines_input (found (goal.at.read_lines-requires c).After-is_cumulated-cumulated) c.args.short.short
    (c.requires.0, omega (arith, c.requires.1, ap amounts_length (sub-zero c.args.n)))

pub returns : goal.returns
returns c =
    let a = c.args in
    let tested = (goal.at.returns c).After-is_cumulated-cumulated in
    rows_under a.short.text.separator _ a.n a.cut _ _ a.heading (sym (told tested) ∙ c.if-cumulated-cut.false)
    (rw c.is_cumulated-cumulated.ensures at (under_heading (found tested) _ _ c.read_lines.ensures))
