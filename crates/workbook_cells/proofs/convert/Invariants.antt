-- Amounts from the left, each that of its kind byte and float.
use Rattle.std.proofs.Common.{◌≡◌, pos}
use Rattle.lists.proofs.Places.{FilledTo}
use Rattle.workbook_cells.specs.Conversion.{all_convertible}
use Rattle.workbook_cells.proofs.Stored.{StoredAt}
use Rattle.workbook_cells.proofs.convert.Given as goal

abbrev pub invariant-loop-j : goal.invariant-loop-j
invariant-loop-j l = record { amounts : FilledTo (pos 0) (StoredAt l.kinds l.numbers) l.initial.amounts l.amounts l.j; all : l.all ≡ all_convertible l.j l.kinds l.numbers }
