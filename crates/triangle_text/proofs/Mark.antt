-- The byte order mark that a text may begin with.
use mathlib.Core.Path.{◌≡◌, refl, sym, ◌∙◌}
use mathlib.Core.Bool.{Bool, true, false, ◌&&◌, and-true}
use mathlib.Core.List.{List, [], ◌∷◌}
use Prim.Native.Nat.{ℕ, ◌+◌}
use lib.Dec.{eqb}
use lib.ListN.{length, get_or, take, drop}
use lib.Pointwise.{pointwise}
use Rattle.std.proofs.Common.{Bor}
use Rattle.std.specs.Prelude.{Option, None, Some}
use Rattle.std.specs.Option.{MatchOption, unwrap_or}
use Rattle.triangle_text.specs.Reading.{without_mark}

abbrev begins_with_mark : List ℕ → Bool
begins_with_mark bytes = pointwise eqb (take 3 bytes) (239 ∷ 187 ∷ 191 ∷ [])

-- the library's comparison and the three tests of the definition
same_tests : (bytes : List ℕ) → (eqb (get_or bytes 0 0) 239 && eqb (get_or bytes 1 0) 187 && eqb (get_or bytes 2 0) 191) ≡ begins_with_mark bytes
same_tests [] = refl
same_tests (first ∷ []) = go (eqb first 239)
  where
    go : (a : Bool) → (a && false && false) ≡ (a && false)
    go true = refl
    go false = refl
same_tests (first ∷ second ∷ []) = go (eqb first 239) (eqb second 187)
  where
    go : (a b : Bool) → (a && b && false) ≡ (a && (b && false))
    go true b = refl
    go false b = refl
same_tests (first ∷ second ∷ third ∷ bytes) = go (eqb first 239) (eqb second 187) (eqb third 191)
  where
    go : (a b c : Bool) → (a && b && c) ≡ (a && (b && (c && true)))
    go true true c = sym (and-true c)
    go true false c = refl
    go false b c = refl

pub mark_left_out : (bytes : Bor (List ℕ)) (rest : Option (Bor (List ℕ)))
    → MatchOption rest (begins_with_mark bytes.now ≡ false) (λ kept. (begins_with_mark bytes.now ≡ true) × (kept.now ≡ drop 3 bytes.now) × (length kept.now + 3 ≡ length bytes.now))
    → (unwrap_or rest bytes).now ≡ without_mark bytes.now
unfolding without_mark
mark_left_out bytes None h = rw (same_tests bytes.now ∙ h)
mark_left_out bytes (Some kept) h = rw (same_tests bytes.now ∙ h.0) h.1
