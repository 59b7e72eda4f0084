-- A text up to the first byte that is sought, and from that byte on.
use Rattle.std.specs.Prelude.{◌≡◌, Bool, not, ◌&&◌, ◌||◌, cond, List, [], ◌∷◌, ℕ, ltb, eqb, length, drop}
use Rattle.text.specs.Bytes.{tab, space, double_quote, comma, semicolon}

-- ---- What is sought

abbrev pub is_byte : ℕ → ℕ → Bool
is_byte other byte = eqb byte other

abbrev pub is_separator : ℕ → Bool
is_separator byte = eqb byte comma || eqb byte semicolon || eqb byte tab

abbrev pub is_no_space : ℕ → Bool
is_no_space byte = not (eqb byte space)

-- neither a space nor the separator
abbrev pub is_content : ℕ → ℕ → Bool
is_content separator byte = not (eqb byte space) && not (eqb byte separator)

-- Words are parted by spaces, double quotes and the separator.
abbrev pub parts_words : ℕ → ℕ → Bool
parts_words separator byte = eqb byte space || eqb byte double_quote || eqb byte separator

abbrev pub is_in_word : ℕ → ℕ → Bool
is_in_word separator byte = not (parts_words separator byte)

-- ---- The text before it, and from it on

unfoldable pub before : (ℕ → Bool) → List ℕ → List ℕ
before sought [] = []
before sought (byte ∷ text) = cond (sought byte) [] (byte ∷ before sought text)

-- Whether a text has this byte.
abbrev pub has_byte : ℕ → List ℕ → Bool
has_byte byte text = ltb (length (before (is_byte byte) text)) (length text)

unfoldable pub from : (ℕ → Bool) → List ℕ → List ℕ
from sought [] = []
from sought (byte ∷ text) = cond (sought byte) (byte ∷ text) (from sought text)

-- what is left after it
abbrev pub after : (ℕ → Bool) → List ℕ → List ℕ
after sought text = drop 1 (from sought text)

-- Whether answers are those of a test.
abbrev pub Computes : (ℕ → Bool → Type 0) → (ℕ → Bool) → Type 0
Computes answers test = (byte : ℕ) (answer : Bool) → answers byte answer → answer ≡ test byte
