-- The lines that are left have the row of the number that is left.
use Prim.Native.Nat.{◌+◌}
use Rattle.std.specs.Iterator.Adapters.{enumerate_source, enumerate_count}
use Rattle.text.specs.Lines.{lines}
use Rattle.headings.proofs.RowLines.{RowSoughtTo}
use Rattle.headings.proofs.places.Heading.row_line.Given as goal

abbrev pub invariant-loop-before : goal.invariant-loop-before
invariant-loop-before l =
    (goal.iterator-loop-before).can_next l.before-iterator
    × (goal.iterator-loop-before).is_finite l.before-iterator
    × RowSoughtTo l.fn.self.content.separator l.fn.self.line l.row (lines l.fn.self.rows.rest.now) l.left
    (l.fn.self.line + enumerate_count l.before-iterator) (lines (enumerate_source l.before-iterator).rest.now)
