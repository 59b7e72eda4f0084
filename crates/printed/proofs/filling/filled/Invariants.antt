-- What is left of the template, with the numbers that are left, makes the whole after what is there.
use mathlib.Core.Path.{◌≡◌}
use lib.ListN.{length, drop}
use Rattle.printed.specs.declared.line.Line.{Line}
use Rattle.printed.specs.Line.{LineIs, After}
use Rattle.printed.specs.Filling.{filled}
use Rattle.printed.proofs.filling.filled.Given as goal

abbrev pub invariant-loop-byte : goal.invariant-loop-byte
invariant-loop-byte l =
    (length l.line.bytes ≡ 512)
    × ((r : Line) → After l.line (filled (drop l.byte-index l.template) l.left.rest.now) r → LineIs (filled l.template l.numbers) r)
