-- Worked examples: texts as they stand in 32 bytes.
-- The statement is proved in proofs/Examples.antt by computing it.
use Rattle.std.specs.Prelude.{◌≡◌, List, [], ◌∷◌, map, ℕ, pos, neg_ℤ}
use Prim.Native.String.{String}
use Rattle.exact_sums.specs.Exact.{least}
use Rattle.figures.specs.Bytes.{bytes}
use Rattle.written_figures.specs.Writing.{written, whole_text, amount_text}
use Rattle.written_figures.specs.declared.writing.Written.{Written}

pub record Text : Type 0 where
  pub text : List ℕ
  pub width : ℕ
  pub shown : String

infix 70 ◌of_width◌shows◌
abbrev pub ◌of_width◌shows◌ : List ℕ → ℕ → String → Text
text of_width width shows shown = record { text = text; width = width; shown = shown }

abbrev pub texts : List Text
texts =
    amount_text (neg_ℤ (pos 1)) of_width 9 shows "                       -0.000001"
    ∷ amount_text (pos 1_216_632_000_000) of_width 16 shows "                1,216,632.000000"
    ∷ whole_text (pos 999) of_width 3 shows "                             999"
    ∷ whole_text (pos 1_000) of_width 5 shows "                           1,000"
    ∷ whole_text least of_width 26 shows "      -9,223,372,036,854,775,808"
    ∷ []

abbrev pub TextsHold : Type 0
TextsHold = map (λ (t : Text). written t.text) texts ≡ map wanted texts
  where
    wanted : Text → Written
    wanted t = record { bytes = bytes t.shown; width = t.width }
