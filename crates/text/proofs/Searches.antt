-- What a search finds: the text before it, the text from it on, and its place.
use mathlib.Core.Path.{◌≡◌, refl, sym, ap, ◌∙◌}
use mathlib.Core.Bool.{Bool, true, false, not, ◌||◌, cond}
use mathlib.Core.List.{List, [], ◌∷◌}
use Prim.Native.Nat.{ℕ, zero, suc, ◌≤◌, ◌<◌}
use native.Mathlib.Omega.{arith}
use lib.Dec.{eqb}
use lib.ListN.{length, get_or, take, drop, length-drop}
use Rattle.std.specs.List.{list_any}
use Rattle.std.proofs.Math.Dec.{eqb-zero-suc, eqb-suc-suc}
use Rattle.text.specs.Search.{is_byte, before, from}

-- a text without a first byte is what is left after it
pub none_first : (text : List ℕ) → length text ≡ 0 → text ≡ drop 1 text
none_first [] none = refl
none_first (byte ∷ text) none = absurd (omega arith)

module _ (sought : ℕ → Bool) where
  -- the place that is found parts the text in what stands before it and what is from it on
  pub take_before : (text : List ℕ) → take (length (before sought text)) text ≡ before sought text
  unfolding before
  take_before [] = refl
  take_before (byte ∷ text) = go (sought byte) (take_before text)
    where
      go : (found : Bool) → take (length (before sought text)) text ≡ before sought text
          → take (length (cond found [] (byte ∷ before sought text))) (byte ∷ text) ≡ cond found [] (byte ∷ before sought text)
      go true e = refl
      go false e = ap (λ rest. byte ∷ rest) e

  pub drop_before : (text : List ℕ) → drop (length (before sought text)) text ≡ from sought text
  unfolding before from
  drop_before [] = refl
  drop_before (byte ∷ text) = go (sought byte) (drop_before text)
    where
      go : (found : Bool) → drop (length (before sought text)) text ≡ from sought text
          → drop (length (cond found [] (byte ∷ before sought text))) (byte ∷ text) ≡ cond found (byte ∷ text) (from sought text)
      go true e = refl
      go false e = e

  pub from_within : (text : List ℕ) → length (from sought text) ≤ length text
  from_within text = omega (arith, ap length (drop_before text), length-drop (length (before sought text)) text)

  -- ---- What a search of a text tells

  pub from_found : (text : List ℕ) (found : ℕ) → found ≡ length (before sought text) → drop found text ≡ from sought text
  from_found text found is = ap (λ n. drop n text) is ∙ drop_before text

  -- ---- The place of the first byte that is sought

  pub first_place : (text : List ℕ) (place : ℕ) → place ≤ length text → ((k : ℕ) → k < place → false ≡ sought (get_or text k 0))
      → (place < length text → true ≡ sought (get_or text place 0)) → place ≡ length (before sought text)
  unfolding before
  first_place [] place within passed here = omega arith
  first_place (byte ∷ text) zero within passed here = rw (sym (here (omega arith)))
  first_place (byte ∷ text) (suc place) within passed here =
      rw (sym (passed 0 (omega arith)))
      (ap suc (first_place text place (omega arith) (λ k h. passed (suc k) (omega arith)) (λ h. here (omega arith))))

-- ---- A byte that a text does not have, by the library's test of all its bytes

pub no_byte_by_any : (byte : ℕ) (text : List ℕ)
    → not (list_any (λ other. eqb other byte) text) ≡ eqb (length (before (is_byte byte) text)) (length text)
unfolding before
no_byte_by_any byte [] = refl
no_byte_by_any byte (other ∷ text) = go (eqb other byte) (no_byte_by_any byte text)
  where
    go : (found : Bool) → not (list_any (λ other. eqb other byte) text) ≡ eqb (length (before (is_byte byte) text)) (length text)
        → not (found || list_any (λ other. eqb other byte) text)
        ≡ eqb (length (cond found [] (other ∷ before (is_byte byte) text))) (suc (length text))
    go true e = sym (eqb-zero-suc (length text))
    go false e = e ∙ sym (eqb-suc-suc (length (before (is_byte byte) text)) (length text))
