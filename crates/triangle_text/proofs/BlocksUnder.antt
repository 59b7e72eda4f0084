-- The block under a heading, which is a triangle, weights or openings.
use mathlib.Core.Path.{◌≡◌, refl, sym, ap}
use mathlib.Core.Bool.{true, false, ◌&&◌}
use mathlib.Core.List.{List}
use Prim.Native.Nat.{ℕ}
use native.Mathlib.Omega.{arith}
use lib.Dec.{ltb}
use lib.IntN.{ℤ}
use lib.ListN.{length, take, length-take}
use Rattle.std.specs.Prelude.{Result, Ok, Err, Some, None}
use Rattle.text.specs.Lines.{lines, others_of}
use Rattle.line_parts.specs.Words.{is_word}
use Rattle.line_kinds.specs.Kinds.{is_either}
use Rattle.line_kinds.specs.declared.kinds.LineKind.{LineKind}
use Rattle.line_kinds.specs.declared.kinds.LineKind as kinds
use Rattle.headings.specs.Places.{line_number, says_cumulated, is_cumulated, HeadingFound}
use Rattle.headings.specs.declared.places.Heading.{Heading}
use Rattle.headings.proofs.HeadingSearch.{no_heading_word}
use Rattle.row_text.specs.Rows.{ReadAs}
use Rattle.row_text.proofs.ReadLists.{read_wrong, read_right}
use Rattle.blocks.specs.Blocks.{block_from, default_weights}
use Rattle.blocks.specs.declared.faults.Expected.TheVariants.{Incremental}
use Rattle.blocks.specs.declared.faults.Fault.{Fault}
use Rattle.blocks.specs.declared.lines.Shape.{Shape}
use Rattle.blocks.specs.declared.lines.Shape.TheVariants.{Triangle}
use Rattle.triangle_text.specs.Reading.{block_under, triangle_under, weights_under}

module _ {text : List ℕ} {separator : ℕ} {heading : LineKind} where
  -- the lines after the heading that was found
  pub under_heading : {found : Heading} → HeadingFound text separator heading (Some found)
      → (shape : Shape) (room : ℕ) {r : Result ℕ Fault} {list : List ℤ}
      → ReadAs (block_from separator shape found.line 0 room (lines found.rows.rest.now)) r list
      → ReadAs (block_under separator (lines text) heading shape room) r list
  under_heading at shape room answer = rw (at.line_is, ap others_of at.lines_are) at answer

  -- there is none
  pub no_heading : HeadingFound text separator heading None
      → (shape : Shape) (room : ℕ) (list : List ℤ) → ReadAs (block_under separator (lines text) heading shape room) (Ok 0) list
  unfolding block_from
  no_heading at shape room list =
      read_right list (omega arith) (sym (ap (λ all. block_from separator shape (line_number separator heading (lines text)) 0 room (others_of all)) at.lines_are)) refl

  not_cumulated : HeadingFound text separator heading None → is_cumulated separator heading (lines text) ≡ false
  unfolding is_cumulated is_either is_word
  not_cumulated at = sym (ap says_cumulated (no_heading_word at 1))

  pub no_triangle : HeadingFound text separator heading None
      → (rows Y room : ℕ) (list : List ℤ) → ReadAs (triangle_under separator (lines text) heading rows Y room) (Ok 0) list
  unfolding triangle_under
  no_triangle at rows Y room list = rw (not_cumulated at) (no_heading at _ room list)

module _ (separator : ℕ) (all : List (List ℕ)) (rows Y room : ℕ) (list : List ℤ) where
  -- ---- A triangle

  module _ (heading : LineKind) where
    pub cumulated_with_cut : (is_cumulated separator heading all && ltb 1 Y) ≡ true → {line : ℕ} → line ≡ line_number separator heading all
        → ReadAs (triangle_under separator all heading rows Y room) (Err record { line = line; cell = 0; expected = Incremental }) list
    unfolding triangle_under
    cumulated_with_cut e {line} is = read_wrong list (rw e (ap (λ (line : ℕ). Err record { line = line; cell = 0; expected = Incremental }) (sym is))) refl

    pub rows_under : (is_cumulated separator heading all && ltb 1 Y) ≡ false → {r : Result ℕ Fault}
        → ReadAs (block_under separator all heading (Triangle record { n = rows; cut = Y; cumulated = is_cumulated separator heading all }) room) r list
        → ReadAs (triangle_under separator all heading rows Y room) r list
    unfolding triangle_under
    rows_under e answer = rw e answer

  -- ---- Weights

  pub weights_given : ltb 0 (line_number separator kinds.TheVariants.Weights all) ≡ true → {r : Result ℕ Fault}
      → ReadAs (triangle_under separator all kinds.TheVariants.Weights rows Y room) r list → ReadAs (weights_under separator all rows Y room) r list
  unfolding weights_under
  weights_given h answer = rw h answer

  pub weights_filled_in : ltb 0 (line_number separator kinds.TheVariants.Weights all) ≡ false → {count : ℕ} → count ≡ length (default_weights rows Y)
      → take count list ≡ default_weights rows Y → ReadAs (weights_under separator all rows Y room) (Ok count) list
  unfolding weights_under
  weights_filled_in h {count} counted filled =
      read_right list (omega (arith, ap length filled, length-take count list)) (rw h (ap Ok (sym filled))) refl
