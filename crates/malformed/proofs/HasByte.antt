-- Whether a text has a byte, by the library's test of all its bytes.
use mathlib.Core.Path.{◌≡◌, refl, ◌∙◌}
use mathlib.Core.Bool.{Bool, true, false, cond, ◌||◌}
use mathlib.Core.List.{List, [], ◌∷◌}
use Prim.Native.Nat.{ℕ, suc, ◌<◌}
use native.Mathlib.Decide.{dec_lt}
use native.Mathlib.Omega.{arith}
use borrow.Author.Tests.{lt-ltb, le-ltb}
use lib.Dec.{ltb, eqb}
use lib.ListN.{length}
use Rattle.std.specs.List.{list_any}
use Rattle.text.specs.Search.{is_byte, before, has_byte}

ltb_suc : (a b : ℕ) → ltb (suc a) (suc b) ≡ ltb a b
ltb_suc a b = go (dec_lt a b)
  where
    go : Dec (a < b) → ltb (suc a) (suc b) ≡ ltb a b
    go (yes h) = rw (lt-ltb (suc a) (suc b) (omega arith), lt-ltb a b h)
    go (no h) = rw (le-ltb (suc a) (suc b) (omega arith), le-ltb a b (omega arith))

pub has_byte_is_any : (byte : ℕ) (text : List ℕ) → has_byte byte text ≡ list_any (λ other. eqb other byte) text
unfolding before
has_byte_is_any byte [] = refl
has_byte_is_any byte (other ∷ text) = go (eqb other byte) (has_byte_is_any byte text)
  where
    go : (b : Bool) → has_byte byte text ≡ list_any (λ other. eqb other byte) text
        → ltb (length (cond b [] (other ∷ before (is_byte byte) text))) (suc (length text)) ≡ (b || list_any (λ other. eqb other byte) text)
    go true others = lt-ltb 0 (suc (length text)) (omega arith)
    go false others = ltb_suc _ _ ∙ others
