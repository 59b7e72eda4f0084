-- The lines that are left have the first fault of all.
use Rattle.std.specs.Iterator.Adapters.{enumerate_source, enumerate_count}
use Rattle.text.specs.Lines.{lines}
use Rattle.heading_faults.proofs.LineChecks.{CheckedTo}
use Rattle.heading_faults.proofs.first_fault.Given as goal

abbrev pub invariant-loop-before : goal.invariant-loop-before
invariant-loop-before l =
    (goal.iterator-loop-before).can_next l.before-iterator
    × (goal.iterator-loop-before).is_finite l.before-iterator
    × CheckedTo l.text.separator (lines l.text.bytes.now) l.under (enumerate_count l.before-iterator) (lines (enumerate_source l.before-iterator).rest.now)
