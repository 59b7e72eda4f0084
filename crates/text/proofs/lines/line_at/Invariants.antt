-- The lines that are left are those after the lines that were passed.
use mathlib.Core.Path.{◌≡◌}
use lib.ListN.{drop}
use Rattle.text.specs.Lines.{lines}
use Rattle.text.proofs.lines.line_at.Given as goal

abbrev pub invariant-loop : goal.invariant-loop
invariant-loop l = lines l.rest ≡ drop l.counter (lines l.text)
