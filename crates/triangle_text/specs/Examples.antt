-- Worked examples: texts and what they hold, and texts with what is wrong with them and where.
-- What is wanted comes from docs/FORMAT.md, from document 01 and from tools/reserve_output.py, which knows nothing of these definitions.
-- The statement is proved in proofs/Examples.antt by computing it.
use Rattle.std.specs.Prelude.{◌≡◌, Bool, true, false, cond, List, [], ◌∷◌, ◌++◌, map, ℕ, ◌-◌, eqb, ℤ, pos, set, take, Some, None}
use Prim.Native.String.{String}
use Rattle.figures.specs.Bytes.{bytes}
use Rattle.text.specs.Bytes.{tab, line_feed, carriage_return, semicolon}
use Rattle.heading_faults.specs.declared.HeadingFault.TheVariants.{HeadingBeforeRow, FiguresInRow, KnownHeading, HeadingOnce, CumulatedOrIncremental, NothingAfterHeading, NumberAfterCut, YearsAfterCell}
use Rattle.row_text.specs.declared.entries.CellFault.TheVariants.{NumberForBlank, WholeNumber, SixtyFourBits, DifferenceOfSixtyFourBits, RowEnd, NoFurtherOpening}
use Rattle.method.specs.Triangle.{Triangle}
use Rattle.method.specs.Examples.{minus, E1, E4, E7}
use Rattle.triangle_text.specs.Reading.{Lists, Reading, triangle, malformed, reading}
use Rattle.triangle_text.specs.declared.reading.Asked.{Asked}
use Rattle.blocks.specs.declared.faults.Expected.TheVariants.{InHeading, InCell, Incremental, NoFurtherRow}

-- ---- How a row is written

pub record Text : Type 0 where
  pub text : List ℕ
  pub wanted : Reading

infix 70 ◌is◌
abbrev pub ◌is◌ : List ℕ → Reading → Text
text is wanted = record { text = text; wanted = wanted }

-- lines that end with these bytes
abbrev pub ended_by : List ℕ → List String → List ℕ
ended_by end [] = []
ended_by end (line ∷ lines) = bytes line ++ (end ++ ended_by end lines)

abbrev pub text_of : List String → List ℕ
text_of lines = ended_by (line_feed ∷ []) lines

-- lines of which one, counted from 1, is another
abbrev pub with_line : ℕ → String → List String → List String
with_line number line lines = set lines (number - 1) line

-- a text with tabs in place of semicolons
abbrev pub with_tabs : List ℕ → List ℕ
with_tabs text = map (λ (byte : ℕ). cond (eqb byte semicolon) tab byte) text

abbrev pub lists_of : Triangle → Lists
lists_of t = record { payments = t.payments; adjustments = t.adjustments; weights = t.weights; openings = t.openings }

-- a triangle of which all is asked for, from payments and adjustments that are cumulated or not, with weights that are given or not
abbrev pub asks_from : Bool → Bool → Bool → Triangle → Asked
asks_from payments_cumulated adjustments_cumulated weights_given t = record {
  years = t.years;
  cut = t.cut;
  payments_cumulated = payments_cumulated;
  adjustments_cumulated = adjustments_cumulated;
  weights_given = weights_given;
  cell = None;
}

abbrev pub asks : Triangle → Reading
asks t = triangle (asks_from false false false t) (lists_of t)

abbrev pub asks_with_weights : Triangle → Reading
asks_with_weights t = triangle (asks_from false false true t) (lists_of t)

abbrev pub asks_of_cumulated : Triangle → Reading
asks_of_cumulated t = triangle (asks_from true true false t) (lists_of t)

-- the same, asked of one cell alone
abbrev pub one_cell : ℕ → ℕ → Asked → Asked
one_cell i k asked = record {
  years = asked.years;
  cut = asked.cut;
  payments_cumulated = asked.payments_cumulated;
  adjustments_cumulated = asked.adjustments_cumulated;
  weights_given = asked.weights_given;
  cell = Some record { accident_year = pos i; development_year = pos k };
}

abbrev pub asks_cell : ℕ → ℕ → Triangle → Reading
asks_cell i k t = triangle (one_cell i k (asks_from false false false t)) (lists_of t)

-- so many years and this cut, for which no list is read
abbrev pub without_lists : ℕ → ℤ → Reading
without_lists n cut = asks record { years = pos n; cut = cut; payments = []; adjustments = []; weights = []; openings = [] }

-- ---- The texts

-- two texts of docs/FORMAT.md
abbrev pub lines_4 : List String
lines_4 =
    "# Payments and adjustments by accident year (rows) and development year (columns)"
    ∷ "payments incremental"
    ∷ "100; 60; 40"
    ∷ "80; 90"
    ∷ "50"
    ∷ "adjustments incremental"
    ∷ "300; -40; -60"
    ∷ "380; 30"
    ∷ "250"
    ∷ []

abbrev pub lines_7 : List String
lines_7 =
    "cut 2"
    ∷ "payments incremental"
    ∷ "; 60; 40"
    ∷ "80; 90"
    ∷ "50"
    ∷ "adjustments incremental"
    ∷ "; -40; -60"
    ∷ "380; 30"
    ∷ "250"
    ∷ "weights"
    ∷ "0; 1"
    ∷ "1"
    ∷ "openings"
    ∷ "200"
    ∷ []

-- E4 as a spreadsheet may write it: a line of separators above the first block, quoted headings, capital letters, separators to the end
-- of every line, a comment with semicolons
abbrev pub lines_of_spreadsheet : List String
lines_of_spreadsheet =
    ",,"
    ∷ "# amounts; in units"
    ∷ "\"PAYMENTS Incremental\",,"
    ∷ "100,60,40"
    ∷ "80,90,"
    ∷ "50,,"
    ∷ ""
    ∷ "\"Adjustments\",\"Incremental\","
    ∷ " 300 , -40,-60"
    ∷ "380,30, # the next is the youngest"
    ∷ "   # a comment after spaces"
    ∷ "250,,"
    ∷ []

-- E4 with its headings in another order, its cut and its weights. Its last row is added in the table, for it has no line end.
abbrev pub lines_in_another_order : List String
lines_in_another_order =
    "# 1,000 are 1"
    ∷ "cut; 1"
    ∷ "adjustments incremental"
    ∷ "300; -40; -60"
    ∷ "380; 30"
    ∷ "250"
    ∷ "openings"
    ∷ "weights"
    ∷ "1; 1"
    ∷ "1"
    ∷ "payments incremental"
    ∷ "100; 60; 40 # cumulated 100, 160 and 200"
    ∷ "80; 90"
    ∷ []

-- E1 cumulated; its second adjustment is -40. Paid and incurred are the payments and the adjustments.
abbrev pub lines_of_sums : List String
lines_of_sums =
    "paid cumulated"
    ∷ "100; 160"
    ∷ "50"
    ∷ "incurred cumulative"
    ∷ "200; 160"
    ∷ "130"
    ∷ []

-- Four years, of which the oldest lacks two cells and the next one. A missing cell may hold a number. The last row of adjustments is not given.
abbrev pub lines_with_cut : List String
lines_with_cut =
    "openings"
    ∷ "5; ;"
    ∷ "6"
    ∷ "cut 3"
    ∷ "payments incremental"
    ∷ " ; ; 7; 8"
    ∷ "; 6; 5"
    ∷ "4; 3"
    ∷ "2"
    ∷ "adjustments incremental"
    ∷ "; 9; -1; 2"
    ∷ "; 1; 3"
    ∷ "4; 5"
    ∷ []

abbrev pub triangle_with_cut : Triangle
triangle_with_cut = record {
  years = pos 4;
  cut = pos 3;
  payments = pos 0 ∷ pos 0 ∷ pos 7 ∷ pos 8 ∷ pos 0 ∷ pos 6 ∷ pos 5 ∷ pos 4 ∷ pos 3 ∷ pos 2 ∷ [];
  adjustments = pos 0 ∷ pos 9 ∷ minus 1 ∷ pos 2 ∷ pos 0 ∷ pos 1 ∷ pos 3 ∷ pos 4 ∷ pos 5 ∷ [];
  weights = pos 0 ∷ pos 0 ∷ pos 1 ∷ pos 0 ∷ pos 1 ∷ pos 1 ∷ [];
  openings = pos 5 ∷ pos 6 ∷ [];
}

-- a row of adjustments and one of payments are wrong, and the adjustments stand first
abbrev pub lines_with_faults : List String
lines_with_faults =
    "adjustments incremental"
    ∷ "300; 4x"
    ∷ "250"
    ∷ "payments incremental"
    ∷ "100; 6x"
    ∷ "50"
    ∷ "weights"
    ∷ []

-- with the one that E7 has, thirty-three
abbrev pub further_openings : List String
further_openings =
    "2; 3; 4; 5; 6; 7; 8; 9; 10; 11; 12; 13; 14; 15; 16; 17"
    ∷ "18; 19; 20; 21; 22; 23; 24; 25; 26; 27; 28; 29; 30; 31; 32; 33"
    ∷ []

abbrev pub texts : List Text
texts =
    text_of lines_4 is asks E4.triangle
    ∷ text_of lines_7 is asks_with_weights E7.triangle
    ∷ (239 ∷ 187 ∷ 191 ∷ ended_by (carriage_return ∷ line_feed ∷ []) lines_of_spreadsheet) is asks E4.triangle
    ∷ with_tabs (text_of lines_in_another_order ++ bytes "50") is asks_with_weights E4.triangle
    ∷ text_of lines_of_sums is asks_of_cumulated E1.triangle
    ∷ text_of (with_line 4 "adjustments incremental" (with_line 5 "200; -40" lines_of_sums))
    is triangle (asks_from true false false E1.triangle) (lists_of E1.triangle)
    ∷ text_of (with_line 1 "cell 3 2" lines_4) is asks_cell 3 2 E4.triangle
    -- weights that are not given are 0 where missing
    ∷ text_of (with_line 10 "" (with_line 11 "" (with_line 12 "" lines_7))) is asks E7.triangle
    ∷ text_of lines_with_cut is asks triangle_with_cut
    -- a line of separators under no heading that has rows
    ∷ text_of ("cut 1" ∷ ";;" ∷ lines_4) is asks E4.triangle
    -- no payments, and a cut that is too large: no row is read
    ∷ text_of ("cut -1" ∷ "adjustments incremental" ∷ "300; 4x" ∷ []) is without_lists 0 (minus 1)
    ∷ text_of (with_line 1 "cut 3" (with_line 3 "100; 6x; 40" lines_4)) is without_lists 3 (pos 3)
    -- headings
    ∷ text_of (with_line 2 "" lines_4) is malformed 3 0 (InHeading HeadingBeforeRow)
    ∷ text_of (with_line 1 "#" lines_4) is malformed 1 0 (InHeading HeadingBeforeRow)
    ∷ text_of (with_line 6 "reported" lines_4) is malformed 6 0 (InHeading KnownHeading)
    ∷ text_of (with_line 5 "\"Total\"; 230" lines_4) is malformed 5 0 (InHeading KnownHeading)
    ∷ text_of (with_line 6 "paid in euros" lines_4) is malformed 6 0 (InHeading HeadingOnce)
    ∷ text_of (with_line 2 "payments" lines_4) is malformed 2 0 (InHeading CumulatedOrIncremental)
    ∷ text_of (with_line 6 "incurred" lines_4) is malformed 6 0 (InHeading CumulatedOrIncremental)
    ∷ text_of (with_line 2 "payments in euros" lines_4) is malformed 2 0 (InHeading CumulatedOrIncremental)
    ∷ text_of (with_line 2 "payments cumulated incremental" lines_4) is malformed 2 0 (InHeading CumulatedOrIncremental)
    ∷ text_of (with_line 7 "weights percent" lines_with_faults) is malformed 7 0 (InHeading NothingAfterHeading)
    ∷ text_of (with_line 1 "cut none" lines_7) is malformed 1 0 (InHeading NumberAfterCut)
    ∷ text_of (with_line 1 "cell 3" lines_4) is malformed 1 0 (InHeading YearsAfterCell)
    -- a line of separators in a block, at its start, at its end, and in the openings
    ∷ text_of (with_line 3 ";;" lines_4) is malformed 3 0 (InHeading FiguresInRow)
    ∷ text_of (lines_4 ++ (" ;" ∷ [])) is malformed 10 0 (InHeading FiguresInRow)
    ∷ text_of (lines_7 ++ (";" ∷ [])) is malformed 15 0 (InHeading FiguresInRow)
    -- rows, those of the payments first
    ∷ text_of lines_with_faults is malformed 5 2 (InCell WholeNumber)
    ∷ text_of (with_line 2 "payments cumulated" lines_7) is malformed 2 0 Incremental
    ∷ text_of (lines_4 ++ ("120" ∷ [])) is malformed 10 0 NoFurtherRow
    ∷ text_of (lines_7 ++ further_openings) is malformed 16 16 (InCell NoFurtherOpening)
    ∷ text_of (with_line 3 "100; ; 4x" lines_4) is malformed 3 2 (InCell NumberForBlank)
    ∷ text_of (with_line 4 "; 90" lines_7) is malformed 4 1 (InCell NumberForBlank)
    ∷ text_of (with_line 7 "3,000; -400; -600" lines_4) is malformed 7 1 (InCell WholeNumber)
    -- number signs that begin no comment
    ∷ text_of (with_line 3 "#REF!; 60; 40" lines_4) is malformed 3 1 (InCell WholeNumber)
    ∷ text_of (with_line 3 "100; #N/A; 40" lines_4) is malformed 3 2 (InCell WholeNumber)
    ∷ text_of (with_line 3 "100; 60; 40# three" lines_4) is malformed 3 3 (InCell WholeNumber)
    ∷ (text_of (take 8 lines_4) ++ bytes "250" ++ (carriage_return ∷ [])) is malformed 9 1 (InCell WholeNumber)
    -- a carriage return may begin a line, so that it is in no comment
    ∷ (bytes "payments incremental" ++ (line_feed ∷ []) ++ bytes "# oldest" ++ (carriage_return ∷ text_of ("100; 60" ∷ "50" ∷ []))) is malformed 2 1 (InCell WholeNumber)
    ∷ text_of (with_line 8 "-9223372036854775808; 9223372036854775808" lines_4) is malformed 8 2 (InCell SixtyFourBits)
    ∷ text_of (with_line 2 "-9223372036854775808; 160" lines_of_sums) is malformed 2 2 (InCell DifferenceOfSixtyFourBits)
    ∷ text_of (with_line 4 "80; 90; ; 96" lines_4) is malformed 4 4 (InCell RowEnd)
    ∷ text_of (with_line 11 "0; 1; 1" lines_7) is malformed 11 3 (InCell RowEnd)
    ∷ []

abbrev pub TextsHold : Type 0
TextsHold = map (λ (t : Text). reading t.text) texts ≡ map (λ (t : Text). t.wanted) texts
