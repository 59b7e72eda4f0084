-- Stores one after another, from a place of a list on.
use mathlib.Core.Path.{◌≡◌, ap, ◌∙◌}
use mathlib.Core.List.{List, [], ◌∷◌, ◌++◌}
use Prim.Native.Nat.{ℕ, suc, ◌+◌, ◌≤◌}
use native.Mathlib.Nat.{add-zero}
use native.Mathlib.Omega.{arith}
use lib.ListN.{length, set, take, drop, length-append}
use lib.Seq.{sets, sets-eq, take_at, length-take-le}

module _ {A : Type 0} where
  pub sets_append : (l : List A) (place : ℕ) (xs ys : List A) → sets (sets l place xs) (place + length xs) ys ≡ sets l place (xs ++ ys)
  sets_append l place [] ys = ap (λ (x : ℕ). sets l x ys) (add-zero place)
  sets_append l place (x ∷ xs) ys =
      let e : place + suc (length xs) ≡ suc place + length xs = omega arith in
      ap (λ (p : ℕ). sets (sets (set l place x) (suc place) xs) p ys) e ∙ sets_append (set l place x) (suc place) xs ys

  -- what stands in the list up to the end of the stores
  pub sets_filled : (xs l : List A) (place : ℕ) → place + length xs ≤ length l → take (place + length xs) (sets l place xs) ≡ take place l ++ xs
  sets_filled xs l place h =
      ap (take (place + length xs)) (sets-eq xs l place h)
      ∙ take_at (take place l ++ xs) (drop (place + length xs) l) (place + length xs)
      (length-append (take place l) xs ∙ ap (λ (x : ℕ). x + length xs) (length-take-le place l (omega arith)))
