-- The headings first; then the lists, where questions 1 and 2 accept.
use mathlib.Core.Path.{◌≡◌, sym, ap, ◌∙◌}
use borrow.Author.Rules.{rules}
use mir.Syntax.{w64}
use mir.Val.{SFits}
use mir.Facts.{to_z-of_z}
use Rattle.std.specs.Prelude.{Ok}
use Rattle.text.specs.Lines.{lines}
use Rattle.line_parts.specs.Cells.{separator_of}
use Rattle.heading_faults.specs.Faults.{heading_fault}
use Rattle.triangle_text.specs.Reading.{lists_wanted, without_mark}
use Rattle.triangle_text.proofs.ListsRead.{text_short, faulty_headings, no_lists_wanted, lists_read, lists_within}
use Rattle.triangle_text.proofs.reading.read_text.Goals as goal
use Rattle.triangle_text.proofs.reading.read_text.Goals.{After-new-text, After-lists_wanted}

-- the text without its mark, and its separator
text_is : (c : After-new-text) → c.new-text.result.bytes.now ≡ without_mark c.args.bytes.now
text_is c = c.new-text.ensures.bytes ∙ c.without_mark.ensures

parted : (c : After-new-text) → c.new-text.result.separator ≡ separator_of c.new-text.result.bytes.now
parted c = c.new-text.ensures.separator ∙ ap separator_of (sym c.new-text.ensures.bytes)

pub invariant_of-short : goal.invariant_of-short
invariant_of-short c = record { short = text_short _ _ (text_is (goal.at.invariant_of-short c).After-new-text) c.requires }

-- ---- The headings

pub returns-in_err-first_fault-clause-read : goal.returns-in_err-first_fault-clause-read
returns-in_err-first_fault-clause-read c =
    let text = (goal.at.returns-in_err-first_fault-clause-read c).After-new-text in
    faulty_headings c.args.bytes.now c.new-text.result.bytes.now (text_is text) c.new-text.result.separator (parted text)
    (sym c.first_fault.ensures ∙ c.in_err-first_fault.was) (search rules)

-- ---- The lists

no_fault : (c : After-lists_wanted) → heading_fault c.new-text.result.separator (lines c.new-text.result.bytes.now) ≡ Ok tt
no_fault c = sym c.first_fault.ensures ∙ c.in_ok-first_fault.was

told : (c : After-lists_wanted) → let asked = c.asked_in-asked.result in c.lists_wanted.result ≡ lists_wanted asked.years asked.cut
told c =
    let asked = c.asked_in-asked.result in
    let years : SFits w64 asked.years = search rules in
    let cut : SFits w64 asked.cut = search rules in
    simp (to_z-of_z years, to_z-of_z cut) at c.lists_wanted.ensures

pub read_lists-requires : goal.read_lists-requires
read_lists-requires c = sym (told (goal.at.read_lists-requires c).After-lists_wanted) ∙ c.if-lists_wanted.true

pub returns-then-lists_wanted-clause-read : goal.returns-then-lists_wanted-clause-read
returns-then-lists_wanted-clause-read c =
    let text = (goal.at.returns-then-lists_wanted-clause-read c).After-new-text in
    let asked = (goal.at.returns-then-lists_wanted-clause-read c).After-lists_wanted in
    lists_read c.args.bytes.now c.new-text.result.bytes.now (text_is text) c.new-text.result.separator (parted text)
    c.asked_in-asked.ensures (no_fault asked) (sym (told asked) ∙ c.if-lists_wanted.true) c.read_lists.ensures

pub returns-then-lists_wanted-clause-within : goal.returns-then-lists_wanted-clause-within
returns-then-lists_wanted-clause-within c = lists_within _ c.read_lists.result c.read_lists.ensures

pub returns-else-lists_wanted-clause-read : goal.returns-else-lists_wanted-clause-read
returns-else-lists_wanted-clause-read c =
    let text = (goal.at.returns-else-lists_wanted-clause-read c).After-new-text in
    let asked = (goal.at.returns-else-lists_wanted-clause-read c).After-lists_wanted in
    no_lists_wanted c.args.bytes.now c.new-text.result.bytes.now (text_is text) c.new-text.result.separator (parted text)
    c.asked_in-asked.ensures (no_fault asked) (sym (told asked) ∙ c.if-lists_wanted.false) (search rules)
