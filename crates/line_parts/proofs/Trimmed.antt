-- Texts without the spaces that end them.
use mathlib.Core.Path.{◌≡◌, refl, sym}
use mathlib.Core.Bool.{◌&&◌, cond, and-false}
use mathlib.Core.List.{List, [], ◌∷◌}
use Prim.Native.Nat.{ℕ, zero, suc, ◌+◌, ◌<◌}
use native.Mathlib.Omega.{arith}
use native.Mathlib.Numerals.{add-one}
use borrow.Author.Tests.{eq-eqb, ne_eqb}
use lib.Dec.{eqb}
use lib.ListN.{length, get_or, take}
use Rattle.text.specs.Bytes.{space}
use Rattle.line_parts.specs.Cells.{is_empty, without_last_spaces}

pub only_spaces : (text : List ℕ) → ((k : ℕ) → k < length text → get_or text k 0 ≡ space) → [] ≡ without_last_spaces text
unfolding without_last_spaces
only_spaces [] spaces = refl
only_spaces (byte ∷ text) spaces =
    rw (eq-eqb _ _ (spaces 0 (omega arith)), sym (only_spaces text (λ k h. spaces (suc k) (omega arith))))

-- the last byte that is no space
module _ (byte : ℕ) where
  kept_before : (text : List ℕ) (last : ℕ) → last < length text → take (last + 1) text ≡ without_last_spaces text
      → take (suc last + 1) (byte ∷ text) ≡ cond (eqb byte space && is_empty (without_last_spaces text)) [] (byte ∷ without_last_spaces text)
  kept_before [] last l e = absurd (omega arith)
  kept_before (next ∷ text) last l e = simp (sym e, add-one, and-false)

pub last_content : (text : List ℕ) (last : ℕ) → last < length text → (get_or text last 0 ≡ space → ⊥)
    → ((k : ℕ) → last < k → k < length text → get_or text k 0 ≡ space) → take (last + 1) text ≡ without_last_spaces text
unfolding without_last_spaces
last_content [] last within content spaces = absurd (omega arith)
last_content (byte ∷ text) zero within content spaces =
    rw (ne_eqb _ _ content, sym (only_spaces text (λ k h. spaces (suc k) (omega arith) (omega arith))))
last_content (byte ∷ text) (suc last) within content spaces =
    kept_before byte text last (omega arith) (last_content text last (omega arith) content (λ k l h. spaces (suc k) (omega arith) (omega arith)))
