-- The development years that are left make the whole after what is there.
use mathlib.Core.Path.{ap, ◌∙◌}
use Rattle.std.proofs.Common.{arith, rules}
use Rattle.integers.proofs.MachineArithmetic.{held}
use Rattle.written_figures.specs.Writing.{whole_text}
use Rattle.printed.specs.Entries.{count_text}
use Rattle.printed.proofs.LineTexts.{line_after}
use Rattle.printed.proofs.EntryTexts.{one_entry_more, no_entry_more}
use Rattle.completed_table.specs.CompletedRows.{years_heading}
use Rattle.completed_table.proofs.completed_rows.years_heading.Goals as goal

pub loop-k-init : goal.loop-k-init
unfolding years_heading
loop-k-init c = record { room = search rules; left = λ r after. line_after c.of-line.ensures after }

pub loop-k-preserved : goal.loop-k-preserved
loop-k-preserved c =
    let year = c.text.ensures ∙ c.whole.ensures.text ∙ ap whole_text (held c.signed.result c.signed.type_inv ∙ c.signed.ensures) in
    let entry = rw year at c.with_entry-line.ensures in
    record {
      room = search rules;
      left = λ r after. c.loop-k.invariant.left r (one_entry_more count_text c.args.part.column c.loop-k.k c.args.part.last (omega arith) entry after);
    }

pub returns : goal.returns
returns c =
    c.loop-k.invariant.left c.loop-k.line (no_entry_more count_text c.args.part.column c.loop-k.k c.args.part.last (omega arith) c.loop-k.invariant.room)
