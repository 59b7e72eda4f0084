-- Each turn counts a row or passes another line.
use mathlib.Core.Path.{◌≡◌, sym, ap, ◌∙◌}
use borrow.Author.Rules.{rules}
use lib.ListN.{length}
use Rattle.text.specs.Lines.{lines}
use Rattle.text.proofs.LinesOfText.{lines_within}
use Rattle.line_kinds.specs.Kinds.{kind_of, is_heading, same_kind}
use Rattle.line_kinds.specs.declared.kinds.LineKind.TheVariants.{Row}
use Rattle.line_kinds.proofs.SameKinds.{same_by_number}
use Rattle.headings.proofs.RowCounts.{lines_ended, rows_ended, row_counted, other_passed}
use Rattle.headings.proofs.places.Heading.count_rows.Goals as goal
use Rattle.headings.proofs.places.Heading.count_rows.Goals.{After-is_heading, After-eq}

told_heading : (c : After-is_heading) → c.is_heading.result ≡ is_heading (kind_of c.args.self.content.separator c.in-Some.bytes.now)
told_heading c = c.is_heading.ensures ∙ ap is_heading c.kind_of-kind.ensures

told_row : (c : After-eq) → c.eq.result ≡ same_kind (kind_of c.args.self.content.separator c.in-Some.bytes.now) Row
told_row c = c.eq.ensures ∙ same_by_number c.kind_of-kind.result Row ∙ ap (λ kind. same_kind kind Row) c.kind_of-kind.ensures

pub overflow_add-count : goal.overflow_add-count
overflow_add-count c = let within = lines_within c.args.self.rows.rest.now in let steps = ap length c.in-Some.ensures.steps in search rules

pub returns-then-is_heading : goal.returns-then-is_heading
returns-then-is_heading c =
    rows_ended c.args.self.content.separator (lines c.args.self.rows.rest.now) c.loop-bytes.count (lines c.loop-bytes.bytes-iterator.rest.now)
    c.loop-bytes.invariant.2 c.in-Some.bytes.now (lines c.next.new.self.rest.now) c.in-Some.ensures.steps
    (sym (told_heading (goal.at.returns-then-is_heading c).After-is_heading) ∙ c.if-is_heading.true)

pub loop-bytes-preserved-then-eq : goal.loop-bytes-preserved-then-eq
loop-bytes-preserved-then-eq c = (
  tt,
  tt,
  row_counted c.args.self.content.separator (lines c.args.self.rows.rest.now) c.loop-bytes.count (lines c.loop-bytes.bytes-iterator.rest.now)
      c.loop-bytes.invariant.2 c.in-Some.bytes.now (lines c.next.new.self.rest.now) c.in-Some.ensures.steps
      (sym (told_heading (goal.at.loop-bytes-preserved-then-eq c).After-is_heading) ∙ c.if-is_heading.false)
      (sym (told_row (goal.at.loop-bytes-preserved-then-eq c).After-eq) ∙ c.if-eq.true),
)

pub loop-bytes-preserved : goal.loop-bytes-preserved
loop-bytes-preserved c = (
  tt,
  tt,
  other_passed c.args.self.content.separator (lines c.args.self.rows.rest.now) c.loop-bytes.count (lines c.loop-bytes.bytes-iterator.rest.now)
      c.loop-bytes.invariant.2 c.in-Some.bytes.now (lines c.next.new.self.rest.now) c.in-Some.ensures.steps
      (sym (told_heading (goal.at.loop-bytes-preserved c).After-is_heading) ∙ c.if-is_heading.false)
      (sym (told_row (goal.at.loop-bytes-preserved c).After-eq) ∙ c.if-eq.false),
)

pub returns : goal.returns
returns c =
    lines_ended c.args.self.content.separator (lines c.args.self.rows.rest.now) c.loop-bytes.count (lines c.loop-bytes.bytes-iterator.rest.now)
    c.loop-bytes.invariant.2 c.in-None.ensures.steps.0
