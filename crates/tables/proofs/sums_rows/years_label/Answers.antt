-- The two years with the word between them, and the spaces that are left before them.
use mathlib.Core.Path.{◌≡◌, ap, ◌∙◌}
use Rattle.std.proofs.Common.{◌+◌, ◌-◌, ◌++◌, length, length-append, arith}
use Rattle.integers.proofs.MachineArithmetic.{held}
use Rattle.figures.specs.Bytes.{bytes}
use Rattle.written_figures.specs.Writing.{whole_text, written}
use Rattle.written_figures.specs.declared.writing.Written.{Written}
use Rattle.printed.specs.Entries.{count_text}
use Rattle.printed.proofs.LineTexts.{both_after, line_after}
use Rattle.tables.specs.SumsRows.{from_year}
use Rattle.tables.proofs.sums_rows.years_label.Goals as goal

pub returns : goal.returns
unfolding from_year
returns c =
    let k = c.args.k in
    let from_is = held c.signed.result c.signed.type_inv ∙ c.signed.ensures in
    let to_is = held c.signed-2.result c.signed-2.type_inv ∙ c.signed-2.ensures in
    let from_width = ap (λ (v : Written). v.width) (c.whole-from.ensures.is ∙ ap (λ x. written (whole_text x)) from_is) in
    let to_width = ap (λ (v : Written). v.width) (c.whole-to.ensures.is ∙ ap (λ x. written (whole_text x)) to_is) in
    let spaces_left : c.saturating_sub-2.result ≡ 16 - length (from_year k) = omega (
      arith,
      from_width,
      to_width,
      length-append (count_text k) (bytes " to " ++ count_text (k + 1)),
      length-append (bytes " to ") (count_text (k + 1)),
    ) in
    line_after c.empty.ensures
    (both_after (rw spaces_left at c.with_spaces.ensures)
    (both_after (rw (c.text.ensures ∙ c.whole-from.ensures.text ∙ ap whole_text from_is) at c.with_text.ensures)
    (both_after c.with_text-2.ensures
    (rw (c.text-2.ensures ∙ c.whole-to.ensures.text ∙ ap whole_text to_is) at c.with_text-3.ensures))))
