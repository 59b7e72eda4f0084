-- Each turn passes a line without a fault.
use mathlib.Core.Path.{◌≡◌, sym, ◌∙◌}
use mathlib.Core.Logic.{inl}
use Prim.Native.Nat.{◌+◌}
use borrow.Author.Rules.{rules}
use Rattle.std.specs.Prelude.{Ok}
use Rattle.std.specs.Iterator.Adapters.{enumerate_source, enumerate_count}
use Rattle.text.specs.Lines.{lines}
use Rattle.text.proofs.LinesOfText.{lines_within}
use Rattle.heading_faults.specs.Faults.{under_after, or_later}
use Rattle.heading_faults.proofs.LineChecks.{CheckedTo, no_fault, fault_here, checks_go_on}
use Rattle.heading_faults.proofs.first_fault.Goals as goal
use Rattle.heading_faults.proofs.first_fault.Goals.{After-map_err, After-is_heading}

pub loop-before-init : goal.loop-before-init
loop-before-init c =
    let within = lines_within c.args.text.bytes.now in
    ((tt, tt, inl (search rules)), search rules, search rules)

-- what is left before the line, and its fault
so_far : (c : After-map_err) → CheckedTo c.args.text.separator (lines c.args.text.bytes.now) c.loop-before.under c.in-Some.before
    (lines (enumerate_source c.loop-before.before-iterator).rest.now)
so_far c = rw (sym c.in-Some.ensures.steps.1) at c.loop-before.invariant.2

mapped : (c : After-map_err) → c.map_err.result ≡ or_later c.check_line.result (c.in-Some.before + 1) (Ok tt)
mapped c = search rules

pub returns-in_err-map_err : goal.returns-in_err-map_err
returns-in_err-map_err c =
    let line = (goal.at.returns-in_err-map_err c).After-map_err in
    let here = fault_here c.args.text.separator (lines c.args.text.bytes.now) _ _ _ (so_far line) c.in-Some.bytes.now _ c.in-Some.ensures.steps.0
    c.kind_of-kind.result c.kind_of-kind.ensures c.check_line.result c.check_line.ensures _ (sym (mapped line) ∙ c.in_err-map_err.was) in
    search rules

-- the line has none
passed : (c : After-is_heading) → CheckedTo c.args.text.separator (lines c.args.text.bytes.now) (under_after c.loop-before.under c.kind_of-kind.result)
    (c.in-Some.before + 1) (lines (enumerate_source c.next.new.self).rest.now)
passed c =
    let line = (goal.at.After-is_heading c).After-map_err in
    checks_go_on c.args.text.separator (lines c.args.text.bytes.now) _ _ _ (so_far line) c.in-Some.bytes.now _ c.in-Some.ensures.steps.0
    c.kind_of-kind.result c.kind_of-kind.ensures c.check_line.result c.check_line.ensures _ (sym (mapped line) ∙ c.in_ok-map_err.was)

pub loop-before-preserved-then-is_heading : goal.loop-before-preserved-then-is_heading
loop-before-preserved-then-is_heading c =
    let line = (goal.at.loop-before-preserved-then-is_heading c).After-is_heading in
    (c.in-Some.ensures.goes.keeps, tt, rw (c.in-Some.ensures.steps.2, sym c.in-Some.ensures.steps.1) (rw (sym c.is_heading.ensures ∙ c.if-is_heading.true) at (passed line)))

pub loop-before-preserved : goal.loop-before-preserved
loop-before-preserved c =
    let line = (goal.at.loop-before-preserved c).After-is_heading in
    (c.in-Some.ensures.goes.keeps, tt, rw (c.in-Some.ensures.steps.2, sym c.in-Some.ensures.steps.1) (rw (sym c.is_heading.ensures ∙ c.if-is_heading.false) at (passed line)))

pub returns : goal.returns
returns c =
    no_fault c.args.text.separator (lines c.args.text.bytes.now) c.loop-before.under (enumerate_count c.loop-before.before-iterator)
    (lines (enumerate_source c.loop-before.before-iterator).rest.now) c.loop-before.invariant.2 c.in-None.ensures.steps.0.0
