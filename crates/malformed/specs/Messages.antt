-- What is printed of a malformed text. docs/FORMAT.md has the tables of these messages.
use Rattle.std.specs.Prelude.{◌||◌, cond, List, [], ◌∷◌, ◌++◌, ℕ, eqb, length, get_or, Option, Some, None, unwrap_or}
use Prim.Native.Char.{code}
use Rattle.figures.specs.Bytes.{bytes}
use Rattle.text.specs.Bytes.{space, number_sign, is_letter}
use Rattle.text.specs.Search.{has_byte}
use Rattle.heading_faults.specs.declared.HeadingFault.{HeadingFault}
use Rattle.heading_faults.specs.declared.HeadingFault.TheVariants.{HeadingBeforeRow, FiguresInRow, KnownHeading, HeadingOnce, CumulatedOrIncremental, NothingAfterHeading, NumberAfterCut, YearsAfterCell}
use Rattle.row_text.specs.declared.entries.CellFault.{CellFault}
use Rattle.row_text.specs.declared.entries.CellFault.TheVariants.{NoFurtherOpening, NumberForBlank, WholeNumber, SixtyFourBits, DifferenceOfSixtyFourBits, RowEnd}
use Rattle.blocks.specs.declared.faults.Expected.{Expected}
use Rattle.blocks.specs.declared.faults.Expected.TheVariants.{InHeading, InCell, Incremental, NoFurtherRow}
use Rattle.printed.specs.Counts.{as_number}
use Rattle.printed.specs.Filling.{filled}
use Rattle.printed.specs.Line.{LineIs}
use Rattle.printed.specs.declared.line.Line.{Line}
use Rattle.met_text.specs.ShownText.{shown_text}
use Rattle.malformed.specs.declared.advice.Mistake.{Mistake}
use Rattle.malformed.specs.declared.advice.Mistake.TheVariants.{Comment, SpreadsheetError, Quotes, Brackets, TypographicMinus, Word, PowerOfTen, Other}

-- ---- The first line

-- The cell is 0 where the whole line is meant.
unfoldable pub fault_place : ℕ → ℕ → List ℕ
fault_place line cell =
    cond (eqb cell 0) (filled (bytes "refused: line @: ") (as_number line ∷ []))
    (filled (bytes "refused: line @, cell @: ") (as_number line ∷ as_number cell ∷ []))

abbrev pub expected_heading : HeadingFault → List ℕ
expected_heading HeadingBeforeRow = bytes "expected payments, adjustments, weights or openings before a row"
expected_heading FiguresInRow = bytes "expected figures in this row"
expected_heading KnownHeading = bytes "expected payments, adjustments, weights, openings, cut, cell or a row of whole numbers"
expected_heading HeadingOnce = bytes "expected this heading only once"
expected_heading CumulatedOrIncremental = bytes "expected cumulated or incremental, and nothing else, after this heading"
expected_heading NothingAfterHeading = bytes "expected nothing after this heading"
expected_heading NumberAfterCut = bytes "expected one whole number after cut"
expected_heading YearsAfterCell = bytes "expected an accident year and a development year after cell"

abbrev pub expected_cell : CellFault → List ℕ
expected_cell NoFurtherOpening = bytes "expected no further opening"
expected_cell NumberForBlank = bytes "expected a whole number, for only a missing cell is blank"
expected_cell WholeNumber = bytes "expected a whole number, such as 1234 or -1234"
expected_cell SixtyFourBits = bytes "expected a number of at most 64 bits"
expected_cell DifferenceOfSixtyFourBits = bytes "expected a figure whose difference from the one before has at most 64 bits"
expected_cell RowEnd = bytes "expected nothing, for the row ends before this cell"

abbrev pub expected_text : Expected → List ℕ
expected_text (InHeading fault) = expected_heading fault
expected_text (InCell fault) = expected_cell fault
expected_text Incremental = bytes "expected incremental figures, for the cut is above 1"
expected_text NoFurtherRow = bytes "expected no further row"

unfoldable pub fault_line : ℕ → ℕ → Expected → List ℕ → List ℕ
fault_line line cell expected met = fault_place line cell ++ (expected_text expected ++ (bytes ", and met " ++ shown_text met))

-- ---- The second line, where there is something to say

abbrev pub advice_of_heading : HeadingFault → Option (List ℕ)
advice_of_heading HeadingBeforeRow = Some (bytes "Headings of columns, and whatever else stands above the figures, begin with # and a space, without quotes.")
advice_of_heading FiguresInRow = Some (bytes "An empty row of a spreadsheet is written like this: fill in its figures or take it out.")
advice_of_heading KnownHeading = Some (bytes "A heading is such as paid cumulated. A row has figures only: no accident year, no word, no totals. Anything else begins with # and a space.")
advice_of_heading HeadingOnce = None
advice_of_heading CumulatedOrIncremental = Some (bytes "Cumulated figures are sums along their row so far, incremental ones those of one development year each.")
advice_of_heading NothingAfterHeading = None
advice_of_heading NumberAfterCut = None
advice_of_heading YearsAfterCell = None

-- A cell that begins with #: a comment that lacks a space before it, or a spreadsheet's error.
unfoldable pub after_number_sign : List ℕ → Mistake
after_number_sign cell = cond (eqb (length cell) 1 || eqb (get_or cell 1 0) space) Comment SpreadsheetError

-- A cell that is no number, by its first byte.
unfoldable pub mistake_of : List ℕ → Mistake
mistake_of cell =
    let first : ℕ = get_or cell 0 0 in
    cond (eqb first number_sign) (after_number_sign cell)
    (cond (eqb first (code "\"")) Quotes
    (cond (eqb first (code "(")) Brackets
    (cond (eqb first 226) TypographicMinus
    (cond (is_letter first) Word
    (cond (has_byte (code "E") cell || has_byte (code "e") cell) PowerOfTen Other)))))

abbrev pub number_advice : Mistake → List ℕ
number_advice Comment = bytes "A comment has a space before its # and one after it."
number_advice SpreadsheetError = bytes "This is a spreadsheet's error: mend it in the spreadsheet and export again. A comment would have a space after its #."
number_advice Quotes = bytes "Figures stand without quotes, which thousands marks bring: set the cells' format to plain numbers and export again."
number_advice Brackets = bytes "A negative figure has a - before it and no brackets."
number_advice TypographicMinus = bytes "A figure has no sign before it but the - of the keyboard."
number_advice Word = bytes "A word is no figure. A cell is blank only where the cut says that it is missing."
number_advice PowerOfTen = bytes "Show the figure in full: no power of ten, no currency and no other letters."
number_advice Other = bytes "Figures are whole units: digits, a - before them where they are negative, no decimals and no thousands marks."

abbrev pub advice_of_cell : CellFault → List ℕ → Option (List ℕ)
advice_of_cell NoFurtherOpening met = None
advice_of_cell NumberForBlank met = Some (bytes "Is there a row of totals or of development years? It counts as an accident year, and every row then wants one figure more.")
advice_of_cell WholeNumber met = Some (number_advice (mistake_of met))
advice_of_cell SixtyFourBits met = None
advice_of_cell DifferenceOfSixtyFourBits met = None
advice_of_cell RowEnd met = Some (bytes "A row has no accident year before its figures, no total behind them, and nothing below the diagonal, also no 0.")

abbrev pub advice : Expected → List ℕ → Option (List ℕ)
advice (InHeading fault) met = advice_of_heading fault
advice (InCell fault) met = advice_of_cell fault met
advice Incremental met = None
advice NoFurtherRow met = Some (bytes "There are as many rows as rows of payments, and of weights one less. A row of totals is left out.")

-- as it is printed: nothing where there is nothing to say
abbrev pub advice_text : Expected → List ℕ → List ℕ
advice_text expected met = unwrap_or (advice expected met) []

-- The answer on what to do: a line of this text, where there is one.
abbrev pub AdviceIs : Option (List ℕ) → Option Line → Type 0
AdviceIs None None = Unit
AdviceIs None (Some line) = ⊥
AdviceIs (Some text) None = ⊥
AdviceIs (Some text) (Some line) = LineIs text line
