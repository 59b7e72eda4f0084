-- A text shown byte by byte.
use mathlib.Core.Path.{◌≡◌}
use mathlib.Core.List.{List, [], ◌∷◌, ◌++◌, map}
use Prim.Native.Nat.{ℕ, ◌+◌, ◌<◌}
use lib.ListN.{length, get_or, take}
use Rattle.std.proofs.Common.{arith}
use Rattle.std.proofs.lemmas.Grind.{common_steps}
use Rattle.printed.specs.declared.line.Line.{Line}
use Rattle.printed.specs.Line.{After}
use Rattle.met_text.specs.ShownText.{shown_byte}
use Rattle.printed.proofs.LineTexts.{both_after}

next_shown : (text : List ℕ) (at : ℕ) → at < length text → map shown_byte (take (at + 1) text) ≡ map shown_byte (take at text) ++ shown_byte (get_or text at 0) ∷ []
next_shown text at within = grind (arith, common_steps)

pub byte_shown : {line so_far r : Line} (text : List ℕ) (at : ℕ) → at < length text → After line (map shown_byte (take at text)) so_far
    → After so_far (shown_byte (get_or text at 0) ∷ []) r → After line (map shown_byte (take (at + 1) text)) r
byte_shown text at within before byte = rw (next_shown text at within) (both_after before byte)
