-- A line that is printed, as its bytes.
use Rattle.std.specs.Prelude.{◌≡◌, List, ◌++◌, ℕ, take}
use Rattle.printed.specs.declared.line.Line.{Line}

abbrev pub text_of : Line → List ℕ
text_of line = take line.length line.bytes

-- A text as a line holds it: what has no room is cut off.
unfoldable pub fitted : List ℕ → List ℕ
fitted text = take 512 text

-- The line r is this text.
pub record LineIs (text : List ℕ) (r : Line) : Type 0 where
  pub is : text_of r ≡ fitted text

-- The line r is another with this text after it.
pub record After (line : Line) (text : List ℕ) (r : Line) : Type 0 where
  pub is : text_of r ≡ fitted (text_of line ++ text)
