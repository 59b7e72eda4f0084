-- What a whole text holds: the triangle that a call lends and what is asked of it, or the first fault.
use Rattle.std.specs.Prelude.{◌≡◌, Bool, ◌&&◌, cond, List, [], ℕ, ◌-◌, ◌≤◌, ltb, eqb, ℤ, pos, nat_abs, length, get_or, take, drop, Option, Some, None, Result, Ok, Err}
use Rattle.text.specs.Lines.{lines}
use Rattle.line_parts.specs.Cells.{separator_of}
use Rattle.headings.specs.Places.{line_number, lines_under, rows_in, number_after, is_cumulated}
use Rattle.heading_faults.specs.Faults.{FirstFault, heading_fault}
use Rattle.line_kinds.specs.declared.kinds.LineKind.{LineKind}
use Rattle.line_kinds.specs.declared.kinds.LineKind.TheVariants.{Payments, Adjustments, Weights, Openings, Cut, Cell}
use Rattle.method.specs.Limits.{most_accident_years}
use Rattle.method.specs.Triangle.{amounts_length, weights_length}
use Rattle.method.specs.Tests.{years_in_range, cut_in_range}
use Rattle.verdicts.specs.declared.verdict.Place.{Place}
use Rattle.blocks.specs.Blocks.{Block, faulty, block_from, default_weights}
use Rattle.blocks.specs.declared.faults.Expected.{Expected}
use Rattle.blocks.specs.declared.faults.Expected.TheVariants.{InHeading, Incremental}
use Rattle.blocks.specs.declared.faults.Fault.{Fault}
use Rattle.blocks.specs.declared.lines.Shape.{Shape}
use Rattle.blocks.specs.declared.lines.Shape as shape
use Rattle.triangle_text.specs.declared.reading.Asked.{Asked}
use Rattle.triangle_text.specs.declared.reading.TextRead.{TextRead}

-- The lists that the call lends.
pub record Lists : Type 0 where
  pub payments : List ℤ
  pub adjustments : List ℤ
  pub weights : List ℤ
  pub openings : List ℤ

pub data Reading : Type 0 where
  triangle : Asked → Lists → Reading
  malformed : ℕ → ℕ → Expected → Reading

-- the numbers of a block, or its fault
abbrev pub then_read : Block → (List ℤ → Reading) → Reading
then_read (Ok list) others = others list
then_read (Err fault) others = malformed fault.line fault.cell fault.expected

unfoldable pub lists_wanted : ℤ → ℤ → Bool
lists_wanted years cut = years_in_range years && cut_in_range years cut

-- ---- The blocks of a text, by its separator and its lines

module _ (separator : ℕ) (all : List (List ℕ)) where
  -- the rows under a heading, in this shape, with room for so many numbers
  abbrev pub block_under : LineKind → Shape → ℕ → Block
  block_under heading rows room = block_from separator rows (line_number separator heading all) 0 room (lines_under separator heading all)

  -- a triangle of so many rows; with a cut above 1 it cannot be cumulated
  unfoldable pub triangle_under : LineKind → ℕ → ℕ → ℕ → Block
  triangle_under heading rows Y room =
      cond (is_cumulated separator heading all && ltb 1 Y)
      (faulty (line_number separator heading all) 0 Incremental)
      (block_under heading (shape.TheVariants.Triangle record { n = rows; cut = Y; cumulated = is_cumulated separator heading all }) room)

  -- whether the text has a heading, by its line's number
  abbrev pub is_given : ℕ → Bool
  is_given line = ltb 0 line

  -- weights of so many rows, filled in where the text has none
  unfoldable pub weights_under : ℕ → ℕ → ℕ → Block
  weights_under rows Y room =
      cond (is_given (line_number separator Weights all)) (triangle_under Weights rows Y room) (Ok (default_weights rows Y))

  abbrev pub openings_under : ℕ → Block
  openings_under room = block_under Openings shape.TheVariants.Openings room

  -- ---- The whole text

  -- the cell that is asked for alone, where one is
  unfoldable pub cell_in : Option Place
  cell_in =
      cond (is_given (line_number separator Cell all))
      (Some record { accident_year = number_after separator Cell 1 (pos 0) all; development_year = number_after separator Cell 2 (pos 0) all })
      None

  -- What the headings say. The number of accident years is that of the rows of payments.
  unfoldable pub asked_in : Asked
  asked_in = record {
    years = pos (rows_in separator (lines_under separator Payments all));
    cut = number_after separator Cut 1 (pos 1) all;
    payments_cumulated = is_cumulated separator Payments all;
    adjustments_cumulated = is_cumulated separator Adjustments all;
    weights_given = is_given (line_number separator Weights all);
    cell = cell_in;
  }

  -- The four lists, for n years and the cut Y, each with room for that of the most years.
  -- The first fault is that of the first block that has one.
  unfoldable pub lists_in : Asked → ℕ → ℕ → Reading
  lists_in asked n Y =
      then_read (triangle_under Payments n Y (amounts_length most_accident_years)) (λ payments.
      then_read (triangle_under Adjustments n Y (amounts_length most_accident_years)) (λ adjustments.
      then_read (weights_under (n - 1) Y (weights_length most_accident_years)) (λ weights.
      then_read (openings_under most_accident_years) (λ openings.
      triangle asked record { payments = payments; adjustments = adjustments; weights = weights; openings = openings }))))

  -- Lists are read where questions 1 and 2 accept n and the cut. Elsewhere the call refuses whatever they hold.
  unfoldable pub with_headings : Asked → Reading
  with_headings asked =
      cond (lists_wanted asked.years asked.cut)
      (lists_in asked (nat_abs asked.years) (nat_abs asked.cut))
      (triangle asked record { payments = []; adjustments = []; weights = []; openings = [] })

  abbrev pub unless_fault : FirstFault → Reading → Reading
  unless_fault (Ok right) read = read
  unless_fault (Err wrong) read = malformed wrong.line 0 (InHeading wrong.expected)

-- by the text's separator and its lines
unfoldable pub reading_of : ℕ → List (List ℕ) → Reading
reading_of separator all = unless_fault separator all (heading_fault separator all) (with_headings separator all (asked_in separator all))

-- a text without the byte order mark at its start
unfoldable pub without_mark : List ℕ → List ℕ
without_mark bytes = cond (eqb (get_or bytes 0 0) 239 && eqb (get_or bytes 1 0) 187 && eqb (get_or bytes 2 0) 191) (drop 3 bytes) bytes

unfoldable pub reading : List ℕ → Reading
reading bytes = reading_of (separator_of (without_mark bytes)) (lines (without_mark bytes))

-- ---- What is answered

-- what is asked and how many numbers each list has, or the fault
abbrev pub counted : Reading → Result TextRead Fault
counted (triangle asked lists) = Ok record {
  asked = asked;
  payments = length lists.payments;
  adjustments = length lists.adjustments;
  weights = length lists.weights;
  openings = length lists.openings;
}
counted (malformed line cell expected) = Err record { line = line; cell = cell; expected = expected }

-- as many numbers as some lists have, from the left of others
abbrev pub as_many : Lists → List ℤ → List ℤ → List ℤ → List ℤ → Lists
as_many lists payments adjustments weights openings = record {
  payments = take (length lists.payments) payments;
  adjustments = take (length lists.adjustments) adjustments;
  weights = take (length lists.weights) weights;
  openings = take (length lists.openings) openings;
}

-- What a text asks and how many numbers it has, and these from the left of each list; or its fault, after which the lists are left open.
pub record TextReadAs (meaning : Reading) (r : Result TextRead Fault) (payments adjustments weights openings : List ℤ) : Type 0 where
  pub read_is : r ≡ counted meaning
  pub lists_are : (asked : Asked) (lists : Lists) → meaning ≡ triangle asked lists → as_many lists payments adjustments weights openings ≡ lists

-- No list is read beyond its end.
pub record Within (read : TextRead) (payments adjustments weights openings : List ℤ) : Type 0 where
  pub payments_within : read.payments ≤ length payments
  pub adjustments_within : read.adjustments ≤ length adjustments
  pub weights_within : read.weights ≤ length weights
  pub openings_within : read.openings ≤ length openings
