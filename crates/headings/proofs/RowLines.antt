-- The line of a row under a heading, sought line by line.
use mathlib.Core.Path.{◌≡◌, sym, ap, ap₂, ◌∙◌}
use mathlib.Core.Bool.{true, false, ◌&&◌, cond}
use mathlib.Core.List.{List, [], ◌∷◌}
use Prim.Native.Nat.{ℕ, suc, ◌+◌}
use native.Mathlib.Numerals.{add-one}
use native.Mathlib.Omega.{arith}
use borrow.Author.Tests.{ne_eqb}
use lib.Dec.{leb}
use lib.ListN.{length}
use Rattle.std.specs.Prelude.{Some, None}
use Rattle.line_kinds.specs.Kinds.{kind_of, is_heading, same_kind}
use Rattle.text.specs.Lines.{lines, others_of}
use Rattle.line_kinds.specs.declared.kinds.LineKind.{LineKind}
use Rattle.headings.specs.Places.{left_after, line_number, row_line_after, row_line, line_there, HeadingFound}
use Rattle.headings.specs.declared.places.Heading.{Heading}
use Rattle.line_kinds.specs.declared.kinds.LineKind.TheVariants.{Row}

-- The lines that are left, after so many, have the row of the number that is left where all lines have the row sought.
module _ (separator number row : ℕ) (all : List (List ℕ)) where
  abbrev sought : ℕ
  sought = row_line_after separator number row all

  pub record RowSoughtTo (left line : ℕ) (rest : List (List ℕ)) : Type 0 where
    pub counted : line + length rest ≡ number + length all
    pub same_line : row_line_after separator line left rest ≡ sought

  module _ (left line : ℕ) (rest : List (List ℕ)) (so_far : RowSoughtTo left line rest) where
    pub no_row_left : rest ≡ [] → None ≡ line_there sought
    unfolding row_line_after
    no_row_left ended = ap line_there (rw ended at so_far.same_line)

    module _ (content : List ℕ) (others : List (List ℕ)) (steps : rest ≡ content ∷ others) where
      by_line : cond (is_heading (kind_of separator content)) 0
          (cond (same_kind (kind_of separator content) Row && leb left 1) (suc line)
          (row_line_after separator (suc line) (left_after (same_kind (kind_of separator content) Row) left) others)) ≡ sought
      unfolding row_line_after
      by_line = sym (ap (row_line_after separator line left) steps) ∙ so_far.same_line

      pub heading_ends_search : is_heading (kind_of separator content) ≡ true → None ≡ line_there sought
      heading_ends_search heading = ap line_there (rw heading at by_line)

      module _ (no_heading : is_heading (kind_of separator content) ≡ false) where
        pub row_sought_here : (same_kind (kind_of separator content) Row && leb left 1) ≡ true → Some (line + 1) ≡ line_there sought
        row_sought_here here =
            let found : line + 1 ≡ sought = rw add-one (rw (no_heading, here) at by_line) in
            rw (ne_eqb (line + 1) 0 (λ e. omega arith)) at (ap line_there found)

        pub row_search_goes_on : (same_kind (kind_of separator content) Row && leb left 1) ≡ false
            → RowSoughtTo (left_after (same_kind (kind_of separator content) Row) left) (line + 1) others
        row_search_goes_on not_here = record {
          counted = omega (arith, so_far.counted, ap length steps);
          same_line = rw add-one (rw (no_heading, not_here) at by_line);
        }

-- ---- Under a heading that is found, or not

module _ {text : List ℕ} {separator : ℕ} {heading : LineKind} (row : ℕ) where
  pub no_row : HeadingFound text separator heading None → None ≡ line_there (row_line separator heading row (lines text))
  unfolding row_line_after
  no_row at = ap (λ all. line_there (row_line_after separator (line_number separator heading (lines text)) row (others_of all))) at.lines_are

  pub row_of_heading : {found : Heading} → HeadingFound text separator heading (Some found)
      → line_there (row_line_after found.content.separator found.line row (lines found.rows.rest.now)) ≡ line_there (row_line separator heading row (lines text))
  row_of_heading {found = found} at =
      ap (λ s. line_there (row_line_after s found.line row (lines found.rows.rest.now))) at.separator_is
      ∙ ap₂ (λ number all. line_there (row_line_after separator number row (others_of all))) at.line_is at.lines_are
