-- A part of the text, as it is shown in a message.
use Rattle.std.specs.Prelude.{◌||◌, cond, List, ◌++◌, map, ℕ, ltb, leb, eqb, length, take}
use Prim.Native.Char.{code}
use Rattle.figures.specs.Bytes.{bytes}
use Rattle.text.specs.Bytes.{tab, space}

-- A tab is shown as a space, and every other byte that is no visible character as a question mark.
abbrev pub shown_byte : ℕ → ℕ
shown_byte byte = cond (eqb byte tab) space (cond (ltb byte 32 || eqb byte 127) (code "?") byte)

-- A text with nothing in it is shown by words, and of more than 40 bytes the first 40 are shown, with three points after them.
unfoldable pub shown_text : List ℕ → List ℕ
shown_text text =
    cond (eqb (length text) 0) (bytes "a blank cell")
    (cond (leb (length text) 40) (map shown_byte (take 40 text)) (map shown_byte (take 40 text) ++ bytes "..."))
