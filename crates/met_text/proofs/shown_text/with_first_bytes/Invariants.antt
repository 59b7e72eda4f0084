-- The bytes so far are shown after what was there.
use mathlib.Core.List.{map}
use lib.ListN.{take}
use Rattle.printed.specs.Line.{After}
use Rattle.met_text.specs.ShownText.{shown_byte}
use Rattle.met_text.proofs.shown_text.with_first_bytes.Given as goal

abbrev pub invariant-loop-byte : goal.invariant-loop-byte
invariant-loop-byte l = After l.initial.longer (map shown_byte (take l.byte-index l.byte-items)) l.longer
