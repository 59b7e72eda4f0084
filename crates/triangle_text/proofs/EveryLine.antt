-- Lines without a fault are read, each as what it is: by the checks of the headings, line after line.
use mathlib.Core.Path.{◌≡◌, refl, sym, ap, ap₂, ◌∙◌}
use mathlib.Core.Bool.{Bool, true, false, not, ◌&&◌, cond}
use mathlib.Core.List.{List, [], ◌∷◌, ◌++◌, append_assoc}
use Prim.Native.Nat.{ℕ, suc, ◌+◌, ◌-◌, ◌≤◌}
use native.Mathlib.Omega.{arith}
use borrow.Author.Tests.{eqb-true, lt-leb}
use lib.Dec.{eqb, leb}
use lib.ListN.{length, length-append}
use Rattle.std.specs.Prelude.{Ok, Err}
use Rattle.text.specs.Lines.{lines, others_of}
use Rattle.line_parts.specs.Cells.{separator_of}
use Rattle.line_kinds.specs.Kinds.{kind_of, is_heading, has_rows, same_kind}
use Rattle.headings.specs.Places.{from_heading, number_after_lines, line_number, left_after, row_line_after, row_line}
use Rattle.heading_faults.specs.Faults.{Checked, FirstFault, check, line_check, under_after, or_later, fault_after, heading_fault}
use Rattle.line_kinds.specs.declared.kinds.LineKind.{LineKind}
use Rattle.line_kinds.specs.declared.kinds.LineKind.TheVariants.{Blank, Separators, Payments, Adjustments, Weights, Openings, Cut, Cell, Row, Unknown}
use Rattle.heading_faults.specs.declared.HeadingFault.{HeadingFault}
use Rattle.heading_faults.specs.declared.HeadingFault.TheVariants.{HeadingOnce}
use Rattle.triangle_text.specs.declared.reading.Asked.{Asked}
use Rattle.triangle_text.specs.Reading.{Lists, Reading, triangle, unless_fault, reading_of, without_mark, reading}
use Rattle.triangle_text.specs.EveryLine.{RowOf, LineRead, LinesRead, EveryLineRead, EveryLineOfEveryText}

-- ---- What a right check tells

right_not_wrong : (fault : HeadingFault) → ◌≡◌ {A = Checked} (Err fault) (Ok tt) → ⊥
right_not_wrong fault e = let z : ◌≡◌ {A = ℕ} 0 1 = cc in omega arith

right_test : (b : Bool) (fault : HeadingFault) → check b fault ≡ Ok tt → b ≡ true
right_test true fault e = refl
right_test false fault e = absurd (right_not_wrong fault e)

right_failed_test : (b : Bool) (fault : HeadingFault) → check (not b) fault ≡ Ok tt → b ≡ false
right_failed_test true fault e = absurd (right_not_wrong fault e)
right_failed_test false fault e = refl

right_first : (a b : ℕ) (words : Checked) → cond (eqb a b) words (Err HeadingOnce) ≡ Ok tt → a ≡ b
right_first a b words e = go (eqb a b) refl e
  where
    go : (same : Bool) → eqb a b ≡ same → cond same words (Err HeadingOnce) ≡ Ok tt → a ≡ b
    go true same e = eqb-true a b same
    go false same e = absurd (right_not_wrong HeadingOnce e)

-- no fault in a line and those after it
no_fault_here : (checked : Checked) (number : ℕ) (later : FirstFault) → or_later checked number later ≡ Ok tt → (checked ≡ Ok tt) × (later ≡ Ok tt)
no_fault_here (Ok nothing) number later e = (refl, e)
no_fault_here (Err fault) number later e = absurd (let z : ◌≡◌ {A = ℕ} 0 1 = cc in omega arith)

module _ (separator : ℕ) where
  -- ---- Where a heading stands that is the first of its kind

  lines_from_first : (heading : LineKind) (before : List (List ℕ)) (line : List ℕ) (rest : List (List ℕ)) (number : ℕ)
      → same_kind (kind_of separator line) heading ≡ true
      → number_after_lines separator heading number (before ++ (line ∷ rest)) ≡ suc (number + length before)
      → from_heading separator heading (before ++ (line ∷ rest)) ≡ line ∷ rest
  unfolding from_heading number_after_lines
  lines_from_first heading [] line rest number same e = rw same
  lines_from_first heading (first ∷ before) line rest number same e =
      go (same_kind (kind_of separator first) heading) e (lines_from_first heading before line rest (suc number) same)
    where
      go : (here : Bool)
          → cond here (suc number) (number_after_lines separator heading (suc number) (before ++ (line ∷ rest))) ≡ suc (number + suc (length before))
          → (number_after_lines separator heading (suc number) (before ++ (line ∷ rest)) ≡ suc (suc number + length before)
          → from_heading separator heading (before ++ (line ∷ rest)) ≡ line ∷ rest)
          → cond here (first ∷ (before ++ (line ∷ rest))) (from_heading separator heading (before ++ (line ∷ rest))) ≡ line ∷ rest
      go true e later = absurd (omega arith)
      go false e later = later (omega arith)

  -- ---- How a search for a row goes on, by the kind of a line

  module _ (line : List ℕ) (lines : List (List ℕ)) (number left : ℕ) (kind : LineKind) (is : kind_of separator line ≡ kind) where
    row_line_by_kind : row_line_after separator number left (line ∷ lines)
        ≡ cond (is_heading kind) 0
        (cond (same_kind kind Row && leb left 1) (suc number) (row_line_after separator (suc number) (left_after (same_kind kind Row) left) lines))
    unfolding row_line_after
    row_line_by_kind = rw is

  module _ (all : List (List ℕ)) where
    -- What is left of all lines after so many: the rows of the block so far, and those that follow in it, are the block's rows.
    record ReadTo (number : ℕ) (under : LineKind) (rest : List (List ℕ)) : Type 0 where
      before : List (List ℕ)
      parts : before ++ rest ≡ all
      counted : length before ≡ number
      rows : ℕ
      rows_go_on : has_rows under ≡ true → (left : ℕ) → 1 ≤ left
          → row_line separator under (rows + left) all ≡ row_line_after separator number left rest

    module _ (number : ℕ) (under : LineKind) (line : List ℕ) (rest : List (List ℕ)) (so_far : ReadTo number under (line ∷ rest)) where
      one_line_more : (so_far.before ++ (line ∷ [])) ++ rest ≡ all
      one_line_more = append_assoc so_far.before (line ∷ []) rest ∙ so_far.parts

      one_more_counted : length (so_far.before ++ (line ∷ [])) ≡ suc number
      one_more_counted = omega (arith, length-append so_far.before (line ∷ []), so_far.counted)

      -- a line without figures
      passed : (kind : LineKind) → kind_of separator line ≡ kind → is_heading kind ≡ false → same_kind kind Row ≡ false → ReadTo (suc number) under rest
      passed kind is no_heading no_row = record {
        before = so_far.before ++ (line ∷ []);
        parts = one_line_more;
        counted = one_more_counted;
        rows = so_far.rows;
        rows_go_on = λ follow left some. so_far.rows_go_on follow left some ∙ rw (no_heading, no_row) at (row_line_by_kind line rest number left kind is);
      }

      -- a row
      row_here : kind_of separator line ≡ Row → has_rows under ≡ true → RowOf separator all under (suc number)
      row_here is follow = record {
        row = so_far.rows + 1;
        from_first = omega arith;
        rows_follow = follow;
        stands_here = so_far.rows_go_on follow 1 (omega arith) ∙ row_line_by_kind line rest number 1 Row is;
      }

      row_passed : kind_of separator line ≡ Row → ReadTo (suc number) under rest
      row_passed is = record {
        before = so_far.before ++ (line ∷ []);
        parts = one_line_more;
        counted = one_more_counted;
        rows = so_far.rows + 1;
        rows_go_on = λ follow left some.
            let one_more : so_far.rows + 1 + left ≡ so_far.rows + (left + 1) = omega arith in
            let not_here : leb (left + 1) 1 ≡ false = lt-leb (left + 1) 1 (omega arith) in
            let one_less : left + 1 - 1 ≡ left = omega arith in
            ap (λ row. row_line separator under row all) one_more
            ∙ so_far.rows_go_on follow (left + 1) (omega arith)
            ∙ rw (not_here, one_less) at (row_line_by_kind line rest number (left + 1) Row is);
      }

      -- a heading
      heading_passed : (kind : LineKind) → same_kind (kind_of separator line) kind ≡ true → line_number separator kind all ≡ suc number
          → ReadTo (suc number) kind rest
      heading_passed kind same first = record {
        before = so_far.before ++ (line ∷ []);
        parts = one_line_more;
        counted = one_more_counted;
        rows = 0;
        rows_go_on = λ follow left some.
            let found : from_heading separator kind (so_far.before ++ (line ∷ rest)) ≡ line ∷ rest =
            lines_from_first kind so_far.before line rest 0 same
            (ap (number_after_lines separator kind 0) so_far.parts ∙ first ∙ omega (arith, so_far.counted)) in
            let none : 0 + left ≡ left = omega arith in
            rw none (ap₂ (λ number lines. row_line_after separator number left (others_of lines)) first
            (ap (from_heading separator kind) (sym so_far.parts) ∙ found));
      }

      -- ---- The line as what it is, and the lines after it

      abbrev Passed : LineKind → Type 0
      Passed kind = LineRead separator all (suc number) under kind × ReadTo (suc number) (under_after under kind) rest

      by_kind : (kind : LineKind) → kind_of separator line ≡ kind → line_check separator all (suc number) under line kind ≡ Ok tt → Passed kind
      by_kind Blank is right = (tt, passed Blank is refl refl)
      by_kind Separators is right = (right_failed_test (has_rows under) _ right, passed Separators is refl refl)
      by_kind Payments is right = let first = right_first _ _ _ right in (first, heading_passed Payments (ap (λ kind. same_kind kind Payments) is) first)
      by_kind Adjustments is right = let first = right_first _ _ _ right in (first, heading_passed Adjustments (ap (λ kind. same_kind kind Adjustments) is) first)
      by_kind Weights is right = let first = right_first _ _ _ right in (first, heading_passed Weights (ap (λ kind. same_kind kind Weights) is) first)
      by_kind Openings is right = let first = right_first _ _ _ right in (first, heading_passed Openings (ap (λ kind. same_kind kind Openings) is) first)
      by_kind Cut is right = let first = right_first _ _ _ right in (first, heading_passed Cut (ap (λ kind. same_kind kind Cut) is) first)
      by_kind Cell is right = let first = right_first _ _ _ right in (first, heading_passed Cell (ap (λ kind. same_kind kind Cell) is) first)
      by_kind Row is right = (row_here is (right_test (has_rows under) _ right), row_passed is)
      by_kind Unknown is right = absurd (right_not_wrong _ right)

    lines_read : (rest : List (List ℕ)) (number : ℕ) (under : LineKind) → ReadTo number under rest → fault_after separator all number under rest ≡ Ok tt
        → LinesRead separator all number under rest
    unfolding fault_after LinesRead
    lines_read [] number under so_far none = tt
    lines_read (line ∷ rest) number under so_far none =
        let right = no_fault_here _ _ _ none in
        let read = by_kind number under line rest so_far (kind_of separator line) refl right.0 in
        (read.0, lines_read rest (suc number) (under_after under (kind_of separator line)) read.1 right.1)

    every_line_read : heading_fault separator all ≡ Ok tt → EveryLineRead separator all
    every_line_read none = lines_read all 0 Blank nothing_read none
      where
        nothing_read : ReadTo 0 Blank all
        nothing_read = record {
          before = [];
          parts = refl;
          counted = refl;
          rows = 0;
          rows_go_on = λ follow left some. absurd (let z : ◌≡◌ {A = ℕ} 0 1 = cc in omega arith);
        }

-- ---- Every text

no_fault_of : (separator : ℕ) (all : List (List ℕ)) (fault : FirstFault) (read : Reading) (asked : Asked) (lists : Lists)
    → unless_fault separator all fault read ≡ triangle asked lists → fault ≡ Ok tt
no_fault_of separator all (Ok nothing) read asked lists e = refl
no_fault_of separator all (Err misplaced) read asked lists e = absurd (let z : ◌≡◌ {A = ℕ} 0 1 = cc in omega arith)

pub every_line_of_every_text : EveryLineOfEveryText
unfolding reading reading_of
every_line_of_every_text bytes asked lists e =
    let separator = separator_of (without_mark bytes) in
    let all = lines (without_mark bytes) in
    every_line_read separator all (no_fault_of separator all _ _ asked lists e)
