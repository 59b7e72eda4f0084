-- The search for a heading, line by line.
use mathlib.Core.Path.{◌≡◌, refl, sym, ap, subst, ◌∙◌}
use mathlib.Core.Bool.{Bool, true, false, cond}
use mathlib.Core.List.{List, [], ◌∷◌}
use Prim.Native.Nat.{ℕ, zero, suc, ◌+◌, ◌-◌, ◌≤◌, ◌<◌}
use native.Mathlib.Numerals.{add-one}
use native.Mathlib.Omega.{arith}
use lib.ListN.{length, drop_of_length-le}
use Rattle.std.specs.Prelude.{Some, None}
use Rattle.std.proofs.Common.{Bor}
use Rattle.text.specs.Search.{before, from}
use Rattle.text.proofs.LinesOfText.{no_lines, lines_within}
use Rattle.text.proofs.Parts.{part_after_lines, one_line_more}
use Rattle.line_parts.specs.Words.{word}
use Rattle.text.specs.Lines.{lines, first_of, others_of, after_lines, IsPart, AfterLine}
use Rattle.line_kinds.specs.Kinds.{kind_of, same_kind}
use Rattle.headings.specs.Places.{from_heading, number_after_lines, line_number, heading_line, HeadingFound}
use Rattle.headings.specs.declared.places.Heading.{Heading}
use Rattle.line_kinds.specs.declared.kinds.LineKind.{LineKind}

-- What is left of all lines, after so many, has the heading of all.
module _ (separator : ℕ) (heading : LineKind) (all : List (List ℕ)) where
  pub record SearchedTo (line : ℕ) (rest : List (List ℕ)) : Type 0 where
    pub counted : line + length rest ≡ length all
    pub same_lines : from_heading separator heading rest ≡ from_heading separator heading all
    pub same_number : number_after_lines separator heading line rest ≡ line_number separator heading all

  module _ (line : ℕ) (rest : List (List ℕ)) (so_far : SearchedTo line rest) where
    no_heading : rest ≡ [] → (0 ≡ line_number separator heading all) × ([] ≡ from_heading separator heading all)
    unfolding from_heading number_after_lines
    no_heading ended = (rw ended at so_far.same_number, rw ended at so_far.same_lines)

    module _ (content : List ℕ) (others : List (List ℕ)) (steps : rest ≡ content ∷ others) where
      line_counted : line + 1 + length others ≡ length all
      line_counted = omega (arith, so_far.counted, ap length steps)

      pub search_goes_on : same_kind (kind_of separator content) heading ≡ false → SearchedTo (line + 1) others
      unfolding from_heading number_after_lines
      search_goes_on other = record {
        counted = line_counted;
        same_lines = rw (steps, other) at so_far.same_lines;
        same_number = rw add-one (rw (steps, other) at so_far.same_number);
      }

      heading_here : same_kind (kind_of separator content) heading ≡ true
          → (line + 1 ≡ line_number separator heading all) × (content ∷ others ≡ from_heading separator heading all)
      unfolding from_heading number_after_lines
      heading_here same = (rw add-one (rw (steps, same) at so_far.same_number), rw (steps, same) at so_far.same_lines)

-- What is left of a text after so many of its lines.
module _ (text : List ℕ) where
  pub record LeftAfter (line : ℕ) (rest : List ℕ) : Type 0 where
    pub rest_is : rest ≡ after_lines line text
    pub line_within : line + length rest ≤ length text

  pub left_at_first : LeftAfter 0 text
  unfolding after_lines
  left_at_first = record { rest_is = refl; line_within = omega arith }

  pub left_after_next : (line : ℕ) (rest : List ℕ) → LeftAfter line rest → (next : List ℕ) → 0 < length rest → AfterLine rest next
      → LeftAfter (line + 1) next
  left_after_next line rest left next more after = record {
    rest_is = one_line_more line text rest next left.rest_is after;
    line_within = omega (arith, left.line_within, after.shorter more);
  }

-- ---- What is found

module _ (separator : ℕ) (heading : LineKind) (text : List ℕ) (line : ℕ) (rest : List ℕ)
    (so_far : SearchedTo separator heading (lines text) line (lines rest)) where
  pub found_nowhere : lines rest ≡ [] → HeadingFound text separator heading None
  found_nowhere ended =
      let none = no_heading separator heading (lines text) line (lines rest) so_far ended in
      record {
        line_is = none.0;
        lines_are = none.1;
        separator_is = refl;
        from_there = no_lines [] 0 (omega arith) ∙ none.1;
        from_part = sym (drop_of_length-le text (omega arith));
        rows_are = refl;
        rows_part = sym (drop_of_length-le text (omega arith));
        line_within = omega arith;
      }

  pub found_there : LeftAfter text line rest → (content next : Bor (List ℕ)) → 0 < length rest → AfterLine rest next.now
      → lines rest ≡ content.now ∷ lines next.now → same_kind (kind_of separator content.now) heading ≡ true
      → HeadingFound text separator heading
      (Some record { line = line + 1; content = record { bytes = content; separator = separator }; rows = record { rest = next } })
  found_there left content next more after steps same =
      let here = heading_here separator heading (lines text) line (lines rest) so_far content.now (lines next.now) steps same in
      let left_next = left_after_next text line rest left next.now more after in
      let before : line + 1 - 1 ≡ line = omega arith in
      record {
        line_is = here.0;
        lines_are = here.1;
        separator_is = refl;
        from_there = ap (λ n. lines (after_lines n text)) before ∙ ap lines (sym left.rest_is) ∙ steps ∙ here.1;
        from_part = part_after_lines (line + 1 - 1) text;
        rows_are = left_next.rest_is;
        rows_part = subst (IsPart text) (sym left_next.rest_is) (part_after_lines (line + 1) text);
        line_within = left_next.line_within;
      }

-- the lines before the heading, its own and those after it are lines of the text
pub heading_within : (separator : ℕ) (heading : LineKind) (before : ℕ) (all : List (List ℕ))
    → number_after_lines separator heading before all + length (others_of (from_heading separator heading all)) ≤ before + length all
unfolding from_heading number_after_lines
heading_within separator heading before [] = omega arith
heading_within separator heading before (line ∷ others) =
    go (same_kind (kind_of separator line) heading) (heading_within separator heading (suc before) others)
  where
    go : (same : Bool)
        → number_after_lines separator heading (suc before) others + length (others_of (from_heading separator heading others)) ≤ suc before + length others
        → cond same (suc before) (number_after_lines separator heading (suc before) others)
        + length (others_of (cond same (line ∷ others) (from_heading separator heading others)))
        ≤ before + suc (length others)
    go true h = omega arith
    go false h = omega (arith, h)

pub word_of_nothing : (separator number : ℕ) → [] ≡ word separator number []
unfolding word from before
word_of_nothing separator zero = refl
word_of_nothing separator (suc number) = word_of_nothing separator number

module _ {text : List ℕ} {separator : ℕ} {heading : LineKind} where
  pub heading_word : {found : Heading} → HeadingFound text separator heading (Some found) → (number : ℕ)
      → word found.content.separator number found.content.bytes.now ≡ word separator number (heading_line separator heading (lines text))
  heading_word {found = found} at number =
      ap (λ s. word s number found.content.bytes.now) at.separator_is ∙ ap (λ all. word separator number (first_of all)) at.lines_are

  pub no_heading_word : HeadingFound text separator heading None → (number : ℕ) → [] ≡ word separator number (heading_line separator heading (lines text))
  no_heading_word at number = word_of_nothing separator number ∙ ap (λ all. word separator number (first_of all)) at.lines_are

  pub rows_counted : {found : Heading} → HeadingFound text separator heading (Some found) → found.line + length (lines found.rows.rest.now) ≤ length text
  rows_counted at =
      omega (arith, at.line_is, ap (λ all. length (others_of all)) at.lines_are, heading_within separator heading 0 (lines text), lines_within text)
