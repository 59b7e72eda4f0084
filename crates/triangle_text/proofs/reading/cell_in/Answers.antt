-- By whether the text has the heading.
use Rattle.std.proofs.Common.{◌∙◌, sym, None, Some, pos}
use Rattle.text.specs.Lines.{lines}
use Rattle.line_kinds.specs.declared.kinds.LineKind.TheVariants.{Cell}
use Rattle.headings.specs.Places.{number_after}
use Rattle.triangle_text.specs.Reading.{cell_in}
use Rattle.triangle_text.proofs.Given.{given}
use Rattle.triangle_text.proofs.ReadBack.{read_back}
use Rattle.triangle_text.proofs.reading.cell_in.Goals as goal

pub returns-in_err-find_heading : goal.returns-in_err-find_heading
unfolding cell_in
returns-in_err-find_heading c = c.from_residual.ensures ∙ rw (sym (given None (rw c.in_err-find_heading.was at c.find_heading.ensures)))

pub returns : goal.returns
unfolding cell_in
returns c =
    let separator = c.args.text.separator in
    let all = lines c.args.text.bytes.now in
    rw (
      read_back {m = number_after separator Cell 1 (pos 0) all} (record { sfits = c.unwrap_or.type_inv }) (c.unwrap_or.ensures ∙ c.number_after.ensures (pos 0)),
      read_back {m = number_after separator Cell 2 (pos 0) all} (record { sfits = c.unwrap_or-2.type_inv }) (c.unwrap_or-2.ensures ∙ c.number_after-2.ensures (pos 0)),
      sym (given (Some c.in_ok-find_heading.field-0) (rw c.in_ok-find_heading.was at c.find_heading.ensures)),
    )
