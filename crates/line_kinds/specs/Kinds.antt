-- What a line of a triangle's text is.
use Rattle.std.specs.Prelude.{Bool, true, false, ◌||◌, cond, List, [], ◌∷◌, ℕ, eqb}
use Rattle.figures.specs.Bytes.{bytes}
use Rattle.text.specs.Bytes.{double_quote, is_letter}
use Rattle.text.specs.Search.{is_no_space, from}
use Rattle.line_parts.specs.Cells.{from_content}
use Rattle.line_parts.specs.Words.{word, is_word}
use Rattle.line_kinds.specs.declared.kinds.LineKind.{LineKind}
use Rattle.line_kinds.specs.declared.kinds.LineKind.TheVariants.{Blank, Separators, Payments, Adjustments, Weights, Openings, Cut, Cell, Row, Unknown}

-- Whether a word is one of two names.
unfoldable pub is_either : List ℕ → List ℕ → List ℕ → Bool
is_either word name other = is_word word name || is_word word other

-- Paid and incurred are other names of the payments and of the adjustments to reported amounts.
unfoldable pub heading_of : List ℕ → LineKind
heading_of name =
    cond (is_either name (bytes "payments") (bytes "paid")) Payments
    (cond (is_either name (bytes "adjustments") (bytes "incurred")) Adjustments
    (cond (is_word name (bytes "weights")) Weights
    (cond (is_word name (bytes "openings")) Openings
    (cond (is_word name (bytes "cut")) Cut
    (cond (is_word name (bytes "cell")) Cell Unknown)))))

abbrev pub begins_with_letter : List ℕ → Bool
begins_with_letter [] = false
begins_with_letter (byte ∷ text) = is_letter byte

-- A heading begins with a letter, or with a double quote and a letter.
unfoldable pub begins_heading : List ℕ → Bool
begins_heading [] = false
begins_heading (byte ∷ text) = cond (eqb byte double_quote) (begins_with_letter text) (is_letter byte)

-- a line without figures and words, from its first byte on that is no space
abbrev pub blank_or_separators : List ℕ → LineKind
blank_or_separators [] = Blank
blank_or_separators (byte ∷ rest) = Separators

-- a line, and the same from its first byte on that is neither a space nor a separator
abbrev pub kind_from : ℕ → List ℕ → List ℕ → LineKind
kind_from separator line [] = blank_or_separators (from is_no_space line)
kind_from separator line (byte ∷ rest) = cond (begins_heading (byte ∷ rest)) (heading_of (word separator 0 line)) Row

-- A line of spaces is blank. One of separators and spaces has no figure. Every other is a heading or a row, as it begins.
unfoldable pub kind_of : ℕ → List ℕ → LineKind
kind_of separator line = kind_from separator line (from_content separator line)

abbrev pub is_heading : LineKind → Bool
is_heading Blank = false
is_heading Separators = false
is_heading Payments = true
is_heading Adjustments = true
is_heading Weights = true
is_heading Openings = true
is_heading Cut = true
is_heading Cell = true
is_heading Row = false
is_heading Unknown = true

-- The headings that rows may follow.
abbrev pub has_rows : LineKind → Bool
has_rows Blank = false
has_rows Separators = false
has_rows Payments = true
has_rows Adjustments = true
has_rows Weights = true
has_rows Openings = true
has_rows Cut = false
has_rows Cell = false
has_rows Row = false
has_rows Unknown = false

-- Each kind has a number of its own, its place among them, by which two are compared.
abbrev pub number_of : LineKind → ℕ
number_of Blank = 0
number_of Separators = 1
number_of Payments = 2
number_of Adjustments = 3
number_of Weights = 4
number_of Openings = 5
number_of Cut = 6
number_of Cell = 7
number_of Row = 8
number_of Unknown = 9

abbrev pub same_kind : LineKind → LineKind → Bool
same_kind a b = eqb (number_of a) (number_of b)
