-- What is left of the text has the separator of the whole.
use Rattle.std.proofs.Common.{◌≡◌}
use Rattle.text.specs.Lines.{lines}
use Rattle.line_parts.specs.Cells.{separator_in}
use Rattle.line_parts.proofs.cells.separator_of.Given as goal

abbrev pub invariant-loop-line : goal.invariant-loop-line
invariant-loop-line l =
    (goal.iterator-loop-line).can_next l.line-iterator ×
    (goal.iterator-loop-line).is_finite l.line-iterator ×
    (separator_in (lines l.line-iterator.rest.now) ≡ separator_in (lines l.text))
