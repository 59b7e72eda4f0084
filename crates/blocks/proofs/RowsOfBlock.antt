-- One row of a block, read into the left of a list.
use mathlib.Core.Path.{◌≡◌, refl, sym, ap, ◌∙◌}
use mathlib.Core.Bool.{false}
use mathlib.Core.List.{List, ◌++◌}
use Prim.Native.Nat.{ℕ, suc, ◌+◌, ◌-◌, ◌≤◌, ◌<◌}
use native.Mathlib.Omega.{arith}
use borrow.Author.Tests.{lt-ltb, le-ltb}
use lib.IntN.{ℤ}
use lib.ListN.{length, length-append}
use lib.Seq.{take-append-le}
use Rattle.std.specs.Prelude.{Result, Ok, Err}
use Rattle.row_text.specs.Rows.{RowNumbers, row_numbers, ReadAs}
use Rattle.row_text.specs.declared.rows.WrongCell.{WrongCell}
use Rattle.row_text.proofs.ReadLists.{read_wrong, read_right, count_is, count_within, right_within}
use Rattle.blocks.specs.Blocks.{at_line, row_in, Room, RowRead}
use Rattle.blocks.specs.declared.faults.Expected.TheVariants.{NoFurtherRow}
use Rattle.blocks.specs.declared.lines.TriangleShape.{TriangleShape}
use Rattle.blocks.specs.declared.lines.Shape.TheVariants.{Triangle}
use Rattle.blocks.proofs.WeightsFilled.{room_after_row}

module _ (number : ℕ) where
  row_right : (r : Result ℕ WrongCell) {count : ℕ} → at_line number r ≡ Ok count → r ≡ Ok count
  row_right (Ok read) {count} e = let same : read ≡ count = cc in ap Ok same
  row_right (Err wrong) e = cc

  -- a row in the left of a list
  row_at_line : (meaning : RowNumbers) {r : Result ℕ WrongCell} {part : List ℤ} (after : List ℤ) → ReadAs meaning r part → ReadAs (at_line number meaning) (at_line number r) (part ++ after)
  row_at_line (Ok others) {part = part} after answer =
      let numbers_are = take-append-le (length others) part after (count_within answer) ∙ answer.numbers_are others refl in
      read_right (part ++ after) (omega (arith, count_within answer, length-append part after)) (ap Ok (sym numbers_are)) (ap (at_line number) (count_is answer))
  row_at_line (Err wrong) {part = part} after answer = read_wrong (part ++ after) refl (ap (at_line number) answer.read_is)

-- ---- A row of a triangle

module _ (separator : ℕ) (t : TriangleShape) (number rows : ℕ) (line : List ℕ) where
  -- there is no such row
  pub no_further_row : (list : List ℤ) → t.n ≤ rows
      → RowRead (Triangle t) (rows + 1) (row_in separator (Triangle t) number rows (length list) line) (Err record { line = number; cell = 0; expected = NoFurtherRow }) list
  no_further_row list h = record { read = read_wrong list (rw (le-ltb rows t.n h) refl) refl; room_left = λ count e. cc }

  pub row_of_triangle : {r : Result ℕ WrongCell} {part : List ℤ} (after : List ℤ) → rows < t.n → Room (Triangle t) rows (length (part ++ after))
      → ReadAs (row_numbers separator (t.cut - suc rows) t.cumulated false (t.n - rows) line) r part → length part ≡ t.n - rows
      → RowRead (Triangle t) (rows + 1) (row_in separator (Triangle t) number rows (length (part ++ after)) line) (at_line number r) (part ++ after)
  row_of_triangle {r} {part} after h room answer long = record {
    read = rw (lt-ltb rows t.n h) (row_at_line number (row_numbers separator (t.cut - suc rows) t.cumulated false (t.n - rows) line) after answer);
    room_left = λ count e. (room.0, omega (arith, room_after_row h room.1, right_within _ answer (row_right number r e)));
  }
