-- The rows of the lines that are left are still to be counted.
use Rattle.text.specs.Lines.{lines}
use Rattle.headings.proofs.RowCounts.{CountedTo}
use Rattle.headings.proofs.places.Heading.count_rows.Given as goal

abbrev pub invariant-loop-bytes : goal.invariant-loop-bytes
invariant-loop-bytes l =
    (goal.iterator-loop-bytes).can_next l.bytes-iterator
    × (goal.iterator-loop-bytes).is_finite l.bytes-iterator
    × CountedTo l.fn.self.content.separator (lines l.fn.self.rows.rest.now) l.count (lines l.bytes-iterator.rest.now)
