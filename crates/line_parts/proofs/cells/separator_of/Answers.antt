-- Each turn passes a line without a separator.
use mathlib.Core.Path.{sym, ap, ◌∙◌}
use borrow.Author.Rules.{rules}
use Rattle.text.specs.Search.{is_separator}
use Rattle.text.specs.Lines.{lines}
use Rattle.line_parts.specs.Cells.{separator_in}
use Rattle.line_parts.proofs.Separators.{separator_here, separator_later}
use Rattle.line_parts.proofs.cells.separator_of.Goals as goal

pub returns-in-Some-first : goal.returns-in-Some-first
returns-in-Some-first c =
    let is = c.from.ensures is_separator (λ byte answer h. search rules) in
    separator_here c.in-Some.line.now (lines c.next.new.self.rest.now) c.from.result.now is _ c.in-Some-first.ensures.value
    ∙ sym (ap separator_in c.in-Some.ensures.steps)
    ∙ c.loop-line.invariant.2

pub loop-line-preserved : goal.loop-line-preserved
loop-line-preserved c =
    let is = c.from.ensures is_separator (λ byte answer h. search rules) in (
      tt,
      tt,
      separator_later c.in-Some.line.now (lines c.next.new.self.rest.now) c.from.result.now is c.in_default.ensures.value
          ∙ sym (ap separator_in c.in-Some.ensures.steps)
          ∙ c.loop-line.invariant.2,
    )

pub returns : goal.returns
unfolding separator_in
returns c = sym (ap separator_in c.in-None.ensures.steps.0) ∙ c.loop-line.invariant.2
