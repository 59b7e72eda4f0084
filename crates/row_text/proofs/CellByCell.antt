-- A line that is read cell by cell into a list, over the meaning of what is left of the line.
use mathlib.Core.Path.{◌≡◌, refl, sym, ap, ◌∙◌}
use mathlib.Core.Bool.{Bool, true, false}
use mathlib.Core.List.{List, [], ◌∷◌, append-nil}
use Prim.Native.Nat.{ℕ, suc, ◌+◌, ◌-◌, ◌≤◌, ◌<◌}
use native.Mathlib.Nat.{add-zero}
use native.Mathlib.Numerals.{add-one}
use native.Mathlib.Omega.{arith}
use lib.Dec.{ltb}
use lib.IntN.{ℤ}
use lib.ListN.{length, take, set, length-set}
use lib.Seq.{take-suc-set}
use Rattle.std.specs.Prelude.{Result, Ok, Err}
use Rattle.std.specs.Bool.{then_some}
use Rattle.figures.specs.Reading.{figure_of}
use Rattle.line_parts.specs.Cells.{first_cell, after_cell, from_content}
use Rattle.row_text.specs.Entries.{entry_of}
use Rattle.row_text.specs.Rows.{RowNumbers, with_numbers, at_cell, after_entry, ends_here, ended, numbers_from, counted_from, ReadAs}
use Rattle.row_text.specs.declared.rows.WrongCell.{WrongCell}
use Rattle.row_text.proofs.ReadLists.{with_no_numbers, with_numbers_twice, read_wrong, read_right}

-- ---- What is left of a row

module _ (separator missing : ℕ) (cumulated openings : Bool) (count cells : ℕ) (figure : ℤ) (rest : List ℕ) where
  -- so many numbers in all, after so many cells and a figure
  abbrev pub numbers_left : RowNumbers
  numbers_left = numbers_from separator missing cumulated openings (count - cells) cells figure rest

  pub row_ends_here : cells < count → ends_here openings (from_content separator rest) ≡ true → numbers_left ≡ Ok []
  unfolding numbers_from
  row_ends_here more here = let one_more : count - cells ≡ suc (count - suc cells) = omega arith in rw (one_more, here)

  pub no_number_follows : count ≤ cells → numbers_left ≡ ended separator openings cells rest (from_content separator rest)
  unfolding numbers_from
  no_number_follows none =
      let no_more : count - cells ≡ 0 = omega arith in
      ap (λ left. numbers_from separator missing cumulated openings left cells figure rest) no_more

  pub number_follows : cells < count → ends_here openings (from_content separator rest) ≡ false
      → numbers_left ≡ after_entry (at_cell (suc cells) (entry_of (figure_of (first_cell separator rest)) (ltb cells missing) (then_some cumulated figure)))
      (λ next. numbers_from separator missing cumulated openings (count - suc cells) (suc cells) next (after_cell separator rest))
  unfolding numbers_from
  number_follows more not_here =
      let one_more : count - cells ≡ suc (count - suc cells) = omega arith in
      rw (one_more, not_here)

-- ---- What is read so far

-- the numbers of so many cells stand in the list; what is left of the line means the rest
pub record ReadSoFar (meaning : RowNumbers) (line rest : List ℕ) (before after : List ℤ) (cells : ℕ) (left : RowNumbers) : Type 0 where
  pub same_length : length after ≡ length before
  pub rest_short : length rest ≤ length line
  pub together : with_numbers (take cells after) left ≡ meaning

pub nothing_read : (meaning : RowNumbers) (line : List ℕ) (list : List ℤ) → ReadSoFar meaning line line list list 0 meaning
nothing_read meaning line list = record { same_length = refl; rest_short = omega arith; together = with_no_numbers meaning }

module _ {meaning : RowNumbers} {line rest : List ℕ} {before after : List ℤ} {cells : ℕ} {left : RowNumbers}
    (s : ReadSoFar meaning line rest before after cells left) where
  -- a cell more
  pub cell_read : (number : ℤ) (others : RowNumbers) {further : List ℕ} → left ≡ with_numbers (number ∷ []) others → cells < length after
      → length further ≤ length rest → ReadSoFar meaning line further before (set after cells number) (cells + 1) others
  cell_read number others goes_on more short = rw (add-one cells) (record {
    same_length = length-set after cells number ∙ s.same_length;
    rest_short = omega (arith, s.rest_short);
    together = ap (λ first. with_numbers first others) (take-suc-set after cells number more)
        ∙ sym (with_numbers_twice (take cells after) (number ∷ []) others)
        ∙ ap (with_numbers (take cells after)) (sym goes_on)
        ∙ s.together;
  })

  -- ---- The answer

  pub row_wrong : {wrong_cell : WrongCell} {r : Result ℕ WrongCell} → left ≡ Err wrong_cell → r ≡ Err wrong_cell → ReadAs meaning r after
  row_wrong e is = read_wrong after (sym s.together ∙ ap (with_numbers (take cells after)) e) is

  pub row_right : cells ≤ length after → {r : Result ℕ WrongCell} → left ≡ Ok [] → r ≡ Ok cells → ReadAs meaning r after
  row_right within e is = read_right after within (sym s.together ∙ ap (with_numbers (take cells after)) e ∙ ap Ok (append-nil (take cells after))) is

  -- by what is left of the line
  pub row_ended : cells ≤ length after → {r : Result ℕ WrongCell} (separator : ℕ) (openings : Bool) (content : List ℕ)
      → left ≡ ended separator openings cells rest content
      → r ≡ counted_from cells (ended separator openings cells rest content) → ReadAs meaning r after
  row_ended within separator openings [] e is = row_right within e (is ∙ ap Ok (add-zero cells))
  row_ended within separator true (byte ∷ others) e is = row_wrong e is
  row_ended within separator false (byte ∷ others) e is = row_wrong e is
