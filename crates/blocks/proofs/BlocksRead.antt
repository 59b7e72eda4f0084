-- A block read line by line: the numbers so far, and the block of the lines that are left.
use mathlib.Core.Path.{◌≡◌, refl, sym, ap, ap₂, ◌∙◌}
use mathlib.Core.Bool.{true, false}
use mathlib.Core.List.{List, [], ◌∷◌, ◌++◌, append-nil}
use Prim.Native.Nat.{ℕ, suc, ◌+◌, ◌-◌, ◌≤◌}
use native.Mathlib.Numerals.{add-one}
use native.Mathlib.Omega.{arith}
use lib.IntN.{ℤ}
use lib.ListN.{length, take, drop, length-drop}
use lib.Seq.{take-add, length-take-le}
use Rattle.std.specs.Prelude.{Result, Ok, Err}
use Rattle.text.specs.Bytes.{longest_text}
use Rattle.line_kinds.specs.Kinds.{kind_of, is_heading}
use Rattle.row_text.specs.Rows.{with_numbers, ReadAs}
use Rattle.row_text.proofs.ReadLists.{with_no_numbers, with_numbers_twice, read_wrong, read_right, right_within, right_is, wrong_is}
use Rattle.blocks.proofs.LinesOfBlock.{AllShort, first_short, others_short}
use Rattle.blocks.specs.Blocks.{then_rows, row_in, is_row, block_from, Room, RowRead}
use Rattle.blocks.specs.declared.faults.Fault.{Fault}
use Rattle.blocks.specs.declared.lines.Shape.{Shape}

-- What is read when these lines are left: so many numbers, from the left of the list, rows and lines.
pub record BlockSoFar (separator : ℕ) (shape : Shape) (all : List (List ℕ)) (number : ℕ) (list₀ list : List ℤ) (count rows line : ℕ) (left : List (List ℕ)) : Type 0 where
  pub lines_short : AllShort longest_text left
  pub few_lines : line + length left ≤ number + length all
  pub few_rows : rows ≤ line
  pub same_length : length list ≡ length list₀
  pub count_within : count ≤ length list₀
  pub room : Room shape rows (length list₀ - count)
  pub goes_on : with_numbers (take count list) (block_from separator shape line rows (length list₀ - count) left)
      ≡ block_from separator shape number 0 (length list₀) all

module _ {separator : ℕ} {shape : Shape} {all : List (List ℕ)} {number : ℕ} {list₀ : List ℤ} where
  pub nothing_read : AllShort longest_text all → Room shape 0 (length list₀)
      → BlockSoFar separator shape all number list₀ list₀ 0 0 number all
  nothing_read short room =
      let whole : length list₀ - 0 ≡ length list₀ = omega arith in
      record {
        lines_short = short;
        few_lines = omega arith;
        few_rows = omega arith;
        same_length = refl;
        count_within = omega arith;
        room = rw whole room;
        goes_on = with_no_numbers (block_from separator shape number 0 (length list₀ - 0) all) ∙ ap (λ room. block_from separator shape number 0 room all) whole;
      }

  module _ {list : List ℤ} {count rows line : ℕ} {left : List (List ℕ)} (so_far : BlockSoFar separator shape all number list₀ list count rows line left) where
    -- nothing is left, or a heading comes next
    ended : block_from separator shape line rows (length list₀ - count) left ≡ Ok [] → ReadAs (block_from separator shape number 0 (length list₀) all) (Ok count) list
    ended e =
        read_right list (omega (arith, so_far.count_within, so_far.same_length))
        (sym so_far.goes_on ∙ ap (with_numbers (take count list)) e ∙ ap Ok (append-nil (take count list)))
        refl

    pub text_ended : left ≡ [] → ReadAs (block_from separator shape number 0 (length list₀) all) (Ok count) list
    unfolding block_from
    text_ended e = ended (ap (block_from separator shape line rows (length list₀ - count)) e)

    module _ {content : List ℕ} {others : List (List ℕ)} (next : left ≡ content ∷ others) where
      pub heading_next : is_heading (kind_of separator content) ≡ true → ReadAs (block_from separator shape number 0 (length list₀) all) (Ok count) list
      unfolding block_from
      heading_next e = ended (ap (block_from separator shape line rows (length list₀ - count)) next ∙ rw e)

      pub next_short : length content ≤ longest_text
      next_short = first_short so_far.lines_short next

      module _ (no_heading : is_heading (kind_of separator content) ≡ false) where
        -- a blank line
        pub blank_next : is_row (kind_of separator content) ≡ false → BlockSoFar separator shape all number list₀ list count rows (line + 1) others
        unfolding block_from
        blank_next no_row =
            let all_left : length list₀ - count - 0 ≡ length list₀ - count = omega arith in
            record {
              lines_short = others_short so_far.lines_short next;
              few_lines = omega (arith, so_far.few_lines, ap length next);
              few_rows = omega (arith, so_far.few_rows);
              same_length = so_far.same_length;
              count_within = so_far.count_within;
              room = so_far.room;
              goes_on =
                  ap (with_numbers (take count list))
                  (rw add-one (sym (ap (block_from separator shape line rows (length list₀ - count)) next ∙ rw (no_heading, no_row)
                  (with_no_numbers (block_from separator shape (suc line) rows (length list₀ - count - 0) others) ∙ ap (λ room. block_from separator shape (suc line) rows room others) all_left))))
                  ∙ so_far.goes_on;
            }

        module _ (is : is_row (kind_of separator content) ≡ true) where
          row_next : block_from separator shape line rows (length list₀ - count) left
              ≡ then_rows (row_in separator shape (suc line) rows (length list₀ - count) content)
              (λ first. block_from separator shape (suc line) (suc rows) (length list₀ - count - length first) others)
          unfolding block_from
          row_next = ap (block_from separator shape line rows (length list₀ - count)) next ∙ rw (no_heading, is)

          pub fault_next : {r : Result ℕ Fault} {part : List ℤ} → RowRead shape (rows + 1) (row_in separator shape (suc line) rows (length list₀ - count) content) r part
              → {fault : Fault} → r ≡ Err fault → {answer : Result ℕ Fault} → answer ≡ Err fault
              → (list' : List ℤ) → ReadAs (block_from separator shape number 0 (length list₀) all) answer list'
          fault_next row wrong is list' =
              read_wrong list'
              (sym so_far.goes_on
              ∙ ap (with_numbers (take count list)) (row_next ∙ ap (λ row. then_rows row (λ first. block_from separator shape (suc line) (suc rows) (length list₀ - count - length first) others)) (wrong_is _ row.read wrong)))
              is

          -- the row is read into the list from its count on
          pub row_read : {r : Result ℕ Fault} {part : List ℤ} → RowRead shape (rows + 1) (row_in separator shape (suc line) rows (length list₀ - count) content) r part
              → {more : ℕ} → r ≡ Ok more
              → {list' : List ℤ} → length list' ≡ length list₀ → take count list' ≡ take count list → drop count list' ≡ part
              → BlockSoFar separator shape all number list₀ list' (count + more) (rows + 1) (line + 1) others
          row_read {part = part} row {more} right {list'} long kept part_is =
              let first = take more part in
              let later = block_from separator shape (suc line) (suc rows) (length list₀ - count - length first) others in
              let bound = right_within _ row.read right in
              let counted : length first ≡ more = length-take-le more part bound in
              let part_length : length part ≡ length list₀ - count = sym (ap length part_is) ∙ length-drop count list' ∙ ap (λ n. n - count) long in
              let left_over : length list₀ - (count + more) ≡ length list₀ - count - length first = omega arith in
              let room_left : length part - more ≡ length list₀ - (count + more) = omega arith in
              let front : take (count + more) list' ≡ take count list ++ first = take-add count more list' ∙ ap₂ ◌++◌ kept (ap (take more) part_is) in
              record {
                lines_short = others_short so_far.lines_short next;
                few_lines = omega (arith, so_far.few_lines, ap length next);
                few_rows = omega (arith, so_far.few_rows);
                same_length = long;
                count_within = omega (arith, so_far.count_within);
                room = rw room_left at (row.room_left more right);
                goes_on =
                    rw (left_over, add-one rows, add-one line)
                    (ap (λ numbers. with_numbers numbers later) front
                    ∙ sym (with_numbers_twice (take count list) first later)
                    ∙ ap (with_numbers (take count list))
                    (sym (row_next ∙ ap (λ row. then_rows row (λ first. block_from separator shape (suc line) (suc rows) (length list₀ - count - length first) others)) (right_is _ row.read right)))
                    ∙ so_far.goes_on);
              }
