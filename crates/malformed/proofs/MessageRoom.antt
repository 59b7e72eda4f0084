-- Every message on a malformed text has room: nothing of it is cut off, whatever was met.
use mathlib.Core.Path.{◌≡◌, refl}
use mathlib.Core.Bool.{true}
use mathlib.Core.List.{List, [], ◌++◌, map}
use Prim.Native.Nat.{ℕ, ◌≤◌}
use native.Mathlib.Omega.{arith}
use borrow.Author.Tests.{leb-true}
use lib.Dec.{leb, eqb}
use lib.ListN.{length, take, length-append, length-map, length-take}
use Rattle.std.specs.Prelude.{unwrap_or}
use Rattle.figures.specs.Bytes.{bytes}
use Rattle.heading_faults.specs.declared.HeadingFault.{HeadingFault}
use Rattle.heading_faults.specs.declared.HeadingFault.TheVariants.{HeadingBeforeRow, FiguresInRow, KnownHeading, HeadingOnce, CumulatedOrIncremental, NothingAfterHeading, NumberAfterCut, YearsAfterCell}
use Rattle.row_text.specs.declared.entries.CellFault.{CellFault}
use Rattle.row_text.specs.declared.entries.CellFault.TheVariants.{NoFurtherOpening, NumberForBlank, WholeNumber, SixtyFourBits, DifferenceOfSixtyFourBits, RowEnd}
use Rattle.blocks.specs.declared.faults.Expected.{Expected}
use Rattle.blocks.specs.declared.faults.Expected.TheVariants.{InHeading, InCell, Incremental, NoFurtherRow}
use Rattle.printed.specs.Filling.{places}
use Rattle.printed.proofs.Room.{one_of_two, filled_fits}
use Rattle.met_text.specs.ShownText.{shown_byte, shown_text}
use Rattle.malformed.specs.Messages.{fault_place, expected_heading, expected_cell, expected_text, fault_line, advice_of_heading, number_advice, advice_of_cell, advice_text, mistake_of}
use Rattle.malformed.specs.declared.advice.Mistake.{Mistake}
use Rattle.malformed.specs.declared.advice.Mistake.TheVariants.{Comment, SpreadsheetError, Quotes, Brackets, TypographicMinus, Word, PowerOfTen, Other}

fault_place_fits : (line cell : ℕ) → length (fault_place line cell) ≤ 128
unfolding fault_place places
fault_place_fits line cell = one_of_two length 128 (eqb cell 0) _ _ (filled_fits 128 _ _ refl) (filled_fits 128 _ _ refl)

heading_fits : (fault : HeadingFault) → leb (length (expected_heading fault)) 128 ≡ true
heading_fits HeadingBeforeRow = refl
heading_fits FiguresInRow = refl
heading_fits KnownHeading = refl
heading_fits HeadingOnce = refl
heading_fits CumulatedOrIncremental = refl
heading_fits NothingAfterHeading = refl
heading_fits NumberAfterCut = refl
heading_fits YearsAfterCell = refl

cell_fits : (fault : CellFault) → leb (length (expected_cell fault)) 128 ≡ true
cell_fits NoFurtherOpening = refl
cell_fits NumberForBlank = refl
cell_fits WholeNumber = refl
cell_fits SixtyFourBits = refl
cell_fits DifferenceOfSixtyFourBits = refl
cell_fits RowEnd = refl

expected_fits : (expected : Expected) → leb (length (expected_text expected)) 128 ≡ true
expected_fits (InHeading fault) = heading_fits fault
expected_fits (InCell fault) = cell_fits fault
expected_fits Incremental = refl
expected_fits NoFurtherRow = refl

first_bytes_fit : (met : List ℕ) → length (map shown_byte (take 40 met)) ≤ 40
first_bytes_fit met = omega (arith, length-map (take 40 met) shown_byte, length-take 40 met)

shown_fits : (met : List ℕ) → length (shown_text met) ≤ 128
unfolding shown_text
shown_fits met =
    one_of_two length 128 (eqb (length met) 0) (bytes "a blank cell") _ (leb-true _ 128 refl)
    (one_of_two length 128 (leb (length met) 40) (map shown_byte (take 40 met)) (map shown_byte (take 40 met) ++ bytes "...")
    (omega (arith, first_bytes_fit met))
    (omega (arith, first_bytes_fit met, length-append (map shown_byte (take 40 met)) (bytes "..."))))

pub fault_line_fits : (line cell : ℕ) (expected : Expected) (met : List ℕ) → length (fault_line line cell expected met) ≤ 511
unfolding fault_line
fault_line_fits line cell expected met =
    let and_met = bytes ", and met " in
    omega (
      arith,
      length-append (fault_place line cell) (expected_text expected ++ (and_met ++ shown_text met)),
      length-append (expected_text expected) (and_met ++ shown_text met),
      length-append and_met (shown_text met),
      fault_place_fits line cell,
      leb-true (length (expected_text expected)) 128 (expected_fits expected),
      shown_fits met,
    )

-- ---- The second line

heading_advice_fits : (fault : HeadingFault) → leb (length (unwrap_or (advice_of_heading fault) [])) 511 ≡ true
heading_advice_fits HeadingBeforeRow = refl
heading_advice_fits FiguresInRow = refl
heading_advice_fits KnownHeading = refl
heading_advice_fits HeadingOnce = refl
heading_advice_fits CumulatedOrIncremental = refl
heading_advice_fits NothingAfterHeading = refl
heading_advice_fits NumberAfterCut = refl
heading_advice_fits YearsAfterCell = refl

number_advice_fits : (mistake : Mistake) → leb (length (number_advice mistake)) 511 ≡ true
number_advice_fits Comment = refl
number_advice_fits SpreadsheetError = refl
number_advice_fits Quotes = refl
number_advice_fits Brackets = refl
number_advice_fits TypographicMinus = refl
number_advice_fits Word = refl
number_advice_fits PowerOfTen = refl
number_advice_fits Other = refl

cell_advice_fits : (fault : CellFault) (met : List ℕ) → leb (length (unwrap_or (advice_of_cell fault met) [])) 511 ≡ true
cell_advice_fits NoFurtherOpening met = refl
cell_advice_fits NumberForBlank met = refl
cell_advice_fits WholeNumber met = number_advice_fits (mistake_of met)
cell_advice_fits SixtyFourBits met = refl
cell_advice_fits DifferenceOfSixtyFourBits met = refl
cell_advice_fits RowEnd met = refl

pub advice_fits : (expected : Expected) (met : List ℕ) → leb (length (advice_text expected met)) 511 ≡ true
advice_fits (InHeading fault) met = heading_advice_fits fault
advice_fits (InCell fault) met = cell_advice_fits fault met
advice_fits Incremental met = refl
advice_fits NoFurtherRow met = refl
