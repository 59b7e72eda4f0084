-- Each turn passes a line that is neither a heading nor the row sought.
use mathlib.Core.Path.{◌≡◌, sym, ap, ◌∙◌}
use mathlib.Core.Bool.{◌&&◌}
use mathlib.Core.Logic.{inl}
use Prim.Native.Nat.{◌+◌}
use Rattle.std.specs.Iterator.Adapters.{enumerate_source, enumerate_count}
use Rattle.std.proofs.Common.{add_assoc}
use borrow.Author.Rules.{rules}
use lib.Dec.{leb}
use lib.ListN.{length}
use Rattle.text.specs.Lines.{lines}
use Rattle.line_kinds.specs.Kinds.{kind_of, is_heading, same_kind}
use Rattle.line_kinds.specs.declared.kinds.LineKind.TheVariants.{Row}
use Rattle.line_kinds.proofs.SameKinds.{same_by_number}
use Rattle.headings.specs.Places.{left_after}
use Rattle.headings.proofs.RowLines.{no_row_left, heading_ends_search, row_sought_here, row_search_goes_on}
use Rattle.headings.proofs.places.Heading.row_line.Goals as goal
use Rattle.headings.proofs.places.Heading.row_line.Goals.{After-is_heading, After-eq-row_here}

told_heading : (c : After-is_heading) → c.is_heading.result ≡ is_heading (kind_of c.args.self.content.separator c.in-Some.bytes.now)
told_heading c = c.is_heading.ensures ∙ ap is_heading c.kind_of-kind.ensures

told_row : (c : After-eq-row_here) → c.eq-row_here.result ≡ same_kind (kind_of c.args.self.content.separator c.in-Some.bytes.now) Row
told_row c = c.eq-row_here.ensures ∙ same_by_number c.kind_of-kind.result Row ∙ ap (λ kind. same_kind kind Row) c.kind_of-kind.ensures

pub loop-before-init : goal.loop-before-init
loop-before-init c = ((tt, tt, inl (search rules)), search rules, search rules)

pub overflow_add-line : goal.overflow_add-line
overflow_add-line c =
    let steps = ap length c.in-Some.ensures.steps.0 in
    let before = c.in-Some.ensures.steps.1 in
    search rules

pub returns-then-is_heading : goal.returns-then-is_heading
returns-then-is_heading c =
    heading_ends_search c.args.self.content.separator c.args.self.line c.args.row (lines c.args.self.rows.rest.now) c.loop-before.left
    (c.args.self.line + c.in-Some.before) (lines (enumerate_source c.loop-before.before-iterator).rest.now)
    (rw (sym c.in-Some.ensures.steps.1) at c.loop-before.invariant.2) c.in-Some.bytes.now (lines (enumerate_source c.next.new.self).rest.now)
    c.in-Some.ensures.steps.0
    (sym (told_heading (goal.at.returns-then-is_heading c).After-is_heading) ∙ c.if-is_heading.true)

pub returns-then-row_here-left : goal.returns-then-row_here-left
returns-then-row_here-left c =
    let row = told_row (goal.at.returns-then-row_here-left c).After-eq-row_here in
    row_sought_here c.args.self.content.separator c.args.self.line c.args.row (lines c.args.self.rows.rest.now) c.loop-before.left
    (c.args.self.line + c.in-Some.before) (lines (enumerate_source c.loop-before.before-iterator).rest.now)
    (rw (sym c.in-Some.ensures.steps.1) at c.loop-before.invariant.2) c.in-Some.bytes.now (lines (enumerate_source c.next.new.self).rest.now)
    c.in-Some.ensures.steps.0
    (sym (told_heading (goal.at.returns-then-row_here-left c).After-is_heading) ∙ c.if-is_heading.false)
    (sym (ap (λ row. row && leb c.loop-before.left 1) row) ∙ c.if-row_here-left.true)

pub loop-before-preserved : goal.loop-before-preserved
loop-before-preserved c =
    let row = told_row (goal.at.loop-before-preserved c).After-eq-row_here in
    let goes_on = row_search_goes_on c.args.self.content.separator c.args.self.line c.args.row (lines c.args.self.rows.rest.now) c.loop-before.left
    (c.args.self.line + c.in-Some.before) (lines (enumerate_source c.loop-before.before-iterator).rest.now)
    (rw (sym c.in-Some.ensures.steps.1) at c.loop-before.invariant.2) c.in-Some.bytes.now (lines (enumerate_source c.next.new.self).rest.now)
    c.in-Some.ensures.steps.0
    (sym (told_heading (goal.at.loop-before-preserved c).After-is_heading) ∙ c.if-is_heading.false)
    (sym (ap (λ row. row && leb c.loop-before.left 1) row) ∙ c.if-row_here-left.false) in (
      c.in-Some.ensures.goes.keeps,
      tt,
      rw (c.in-Some.ensures.steps.2, sym c.in-Some.ensures.steps.1, c.left_after-left.ensures ∙ ap (λ row. left_after row c.loop-before.left) row, sym (add_assoc c.args.self.line c.in-Some.before 1))
          goes_on,
    )

pub returns : goal.returns
returns c =
    no_row_left c.args.self.content.separator c.args.self.line c.args.row (lines c.args.self.rows.rest.now) c.loop-before.left (c.args.self.line + enumerate_count c.loop-before.before-iterator)
    (lines (enumerate_source c.loop-before.before-iterator).rest.now) c.loop-before.invariant.2 c.in-None.ensures.steps.0.0
