-- The words of a line, which spaces, double quotes and separators part.
use Rattle.std.specs.Prelude.{Bool, true, false, ◌&&◌, List, [], ◌∷◌, ℕ, zero, suc, eqb}
use Rattle.text.specs.Bytes.{small}
use Rattle.text.specs.Search.{parts_words, is_in_word, before, from}

-- from the first word on
abbrev pub from_word : ℕ → List ℕ → List ℕ
from_word separator line = from (is_in_word separator) line

-- The word of this number, counted from 0; empty where there are fewer.
unfoldable pub word : ℕ → ℕ → List ℕ → List ℕ
word separator zero line = before (parts_words separator) (from_word separator line)
word separator (suc number) line = word separator number (from (parts_words separator) (from_word separator line))

-- Whether a word is a name, which is in small letters; capital letters count as small ones.
unfoldable pub is_word : List ℕ → List ℕ → Bool
is_word [] [] = true
is_word [] (letter ∷ name) = false
is_word (byte ∷ word) [] = false
is_word (byte ∷ word) (letter ∷ name) = eqb (small byte) letter && is_word word name
