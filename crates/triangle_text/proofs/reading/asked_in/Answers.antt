-- Each part by what the headings' functions ensure.
use mathlib.Core.Path.{◌∙◌}
use lib.IntN.{pos}
use Rattle.text.specs.Lines.{lines}
use Rattle.headings.specs.Places.{rows_in, lines_under, number_after}
use Rattle.line_kinds.specs.declared.kinds.LineKind.TheVariants.{Payments, Cut}
use Rattle.triangle_text.specs.Reading.{asked_in}
use Rattle.triangle_text.proofs.Given.{given}
use Rattle.triangle_text.proofs.ReadBack.{read_back}
use Rattle.triangle_text.proofs.reading.asked_in.Goals as goal

pub returns : goal.returns
unfolding asked_in
returns c =
    let separator = c.args.short.text.separator in
    let all = lines c.args.short.text.bytes.now in
    rw (
      read_back {m = pos (rows_in separator (lines_under separator Payments all))} (record { sfits = c.years_in.type_inv }) c.years_in.ensures,
      read_back {m = number_after separator Cut 1 (pos 1) all} (record { sfits = c.unwrap_or.type_inv }) (c.unwrap_or.ensures ∙ c.number_after.ensures (pos 1)),
      c.is_cumulated.ensures,
      c.is_cumulated-2.ensures,
      c.is_some.ensures ∙ given c.find_heading.result c.find_heading.ensures,
      c.cell_in.ensures,
    )
