-- Worked examples: what is printed of some malformed texts. docs/FORMAT.md has the first two lines.
-- The statement is proved in proofs/Examples.antt by computing it.
use Rattle.std.specs.Prelude.{List, [], ◌∷◌, ◌++◌}
use Rattle.figures.specs.Bytes.{bytes}
use Rattle.text.specs.Bytes.{tab, carriage_return}
use Rattle.heading_faults.specs.declared.HeadingFault.TheVariants.{CumulatedOrIncremental}
use Rattle.row_text.specs.declared.entries.CellFault.TheVariants.{NumberForBlank, WholeNumber}
use Rattle.blocks.specs.declared.faults.Expected.{Expected}
use Rattle.blocks.specs.declared.faults.Expected.TheVariants.{InHeading, InCell}
use Rattle.printed.specs.WorkedLines.{Printed, ◌shows◌, all_of}
use Rattle.malformed.specs.Messages.{fault_line, advice_text}

abbrev pub no_number : Expected
no_number = InCell WholeNumber

abbrev pub messages : List Printed
messages =
    fault_line 7 2 no_number (bytes "100.00") shows "refused: line 7, cell 2: expected a whole number, such as 1234 or -1234, and met 100.00"
    ∷ advice_text no_number (bytes "100.00") shows "Figures are whole units: digits, a - before them where they are negative, no decimals and no thousands marks."
    ∷ fault_line 1 0 (InHeading CumulatedOrIncremental) (bytes "payments") shows "refused: line 1: expected cumulated or incremental, and nothing else, after this heading, and met payments"
    ∷ fault_line 3 1 (InCell NumberForBlank) [] shows "refused: line 3, cell 1: expected a whole number, for only a missing cell is blank, and met a blank cell"
    ∷ fault_line 2 1 no_number (bytes "1" ++ tab ∷ bytes "2" ++ carriage_return ∷ []) shows "refused: line 2, cell 1: expected a whole number, such as 1234 or -1234, and met 1 2?"
    ∷ fault_line 2 1 no_number (bytes "1234567890123456789012345678901234567890.5") shows "refused: line 2, cell 1: expected a whole number, such as 1234 or -1234, and met 1234567890123456789012345678901234567890..."
    ∷ []

-- cells that are no numbers, and the first words on what to do
abbrev pub cells : List Printed
cells =
    advice_text no_number (bytes "#") shows "A comment has a space before its # and one after it."
    ∷ advice_text no_number (bytes "# note") shows "A comment has a space before its # and one after it."
    ∷ advice_text no_number (bytes "#REF!") shows "This is a spreadsheet's error: mend it in the spreadsheet and export again. A comment would have a space after its #."
    ∷ advice_text no_number (bytes "\"1,000\"") shows "Figures stand without quotes, which thousands marks bring: set the cells' format to plain numbers and export again."
    ∷ advice_text no_number (bytes "(40)") shows "A negative figure has a - before it and no brackets."
    ∷ advice_text no_number (226 ∷ 136 ∷ 146 ∷ bytes "40") shows "A figure has no sign before it but the - of the keyboard."
    ∷ advice_text no_number (bytes "NA") shows "A word is no figure. A cell is blank only where the cut says that it is missing."
    ∷ advice_text no_number (bytes "1E+06") shows "Show the figure in full: no power of ten, no currency and no other letters."
    ∷ []

abbrev pub MessagesHold : Type 0
MessagesHold = all_of messages

abbrev pub CellsHold : Type 0
CellsHold = all_of cells
