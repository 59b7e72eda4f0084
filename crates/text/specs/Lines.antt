-- The lines of a text, without their ends and their comments.
use Rattle.std.specs.Prelude.{◌≡◌, Bool, true, false, ◌&&◌, cond, List, [], ◌∷◌, map, ℕ, zero, suc, ◌-◌, ◌<◌, eqb, length, drop}
use Rattle.text.specs.Bytes.{line_feed, carriage_return, space, number_sign}
use Rattle.text.specs.Search.{is_byte, before, after}

-- the first of several lines, empty where there is none, and those after it
abbrev pub first_of : List (List ℕ) → List ℕ
first_of [] = []
first_of (line ∷ lines) = line

abbrev pub others_of : List (List ℕ) → List (List ℕ)
others_of [] = []
others_of (line ∷ lines) = lines

-- the first of several lines with one byte more at its start
abbrev pub with_byte : ℕ → List (List ℕ) → List (List ℕ)
with_byte byte lines = (byte ∷ first_of lines) ∷ others_of lines

abbrev pub line_feed_follows : List ℕ → Bool
line_feed_follows [] = false
line_feed_follows (byte ∷ text) = eqb byte line_feed

-- A line ends with a line feed, or with a carriage return and a line feed. The last line may lack its end.
unfoldable pub whole_lines : List ℕ → List (List ℕ)
whole_lines [] = []
whole_lines (byte ∷ text) =
    let lines : List (List ℕ) = whole_lines text in
    cond (eqb byte line_feed) ([] ∷ lines) (cond (eqb byte carriage_return && line_feed_follows text) lines (with_byte byte lines))

abbrev pub begins_with_space : List ℕ → Bool
begins_with_space [] = false
begins_with_space (byte ∷ line) = eqb byte space

abbrev pub without_return : List ℕ → Bool
without_return text = eqb (length (before (is_byte carriage_return) text)) (length text)

-- A comment begins with a number sign and a space. It has no carriage return, after which some programs begin a line.
abbrev pub begins_comment : List ℕ → Bool
begins_comment [] = false
begins_comment (byte ∷ line) = eqb byte number_sign && begins_with_space line && without_return (byte ∷ line)

-- what stands before the comment; one may begin here or not
unfoldable pub before_comment : Bool → List ℕ → List ℕ
before_comment may_begin [] = []
before_comment may_begin (byte ∷ line) =
    cond (may_begin && begins_comment (byte ∷ line)) [] (byte ∷ before_comment (eqb byte space) line)

-- A comment stands at the start of a line or after a space.
abbrev pub without_comment : List ℕ → List ℕ
without_comment line = before_comment true line

unfoldable pub lines : List ℕ → List (List ℕ)
lines text = map without_comment (whole_lines text)

-- The line of this number, counted from 1; empty where there are fewer.
abbrev pub line_of : ℕ → List (List ℕ) → List ℕ
line_of number lines = first_of (drop (number - 1) lines)

-- A text after its first line feed; empty where it has none.
abbrev pub after_line : List ℕ → List ℕ
after_line text = after (is_byte line_feed) text

-- A text after so many of its lines.
unfoldable pub after_lines : ℕ → List ℕ → List ℕ
after_lines zero text = text
after_lines (suc number) text = after_line (after_lines number text)

-- Whether what is left is a part of the text, up to its end.
abbrev pub IsPart : List ℕ → List ℕ → Type 0
IsPart text rest = rest ≡ drop (length text - length rest) text

-- What is left of a text after its first line.
pub record AfterLine (text rest : List ℕ) : Type 0 where
  pub shorter : 0 < length text → length rest < length text
  pub others : lines rest ≡ others_of (lines text)
  pub rest_is : rest ≡ after_line text
  pub part : IsPart text rest
