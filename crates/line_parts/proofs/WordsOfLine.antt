-- The words of a line one by one, and a word compared with a name letter by letter.
use mathlib.Core.Path.{◌≡◌, refl}
use mathlib.Core.Bool.{Bool, ◌&&◌}
use mathlib.Core.List.{List, [], ◌∷◌}
use Prim.Native.Nat.{ℕ, suc}
use Rattle.std.proofs.Common.{nat_eq}
use native.Mathlib.Omega.{arith}
use borrow.Author.Tests.{ne_eqb}
use lib.ListN.{length}
use Rattle.std.specs.List.{list_all, zip}
use Rattle.std.proofs.lemmas.Grind.{common_steps}
use Rattle.text.specs.Bytes.{small}
use Rattle.text.specs.Search.{parts_words, from}
use Rattle.line_parts.specs.Words.{from_word, word, is_word}

pub next_word : (separator left later : ℕ) (line : List ℕ) → left ≡ suc later
    → word separator later (from (parts_words separator) (from_word separator line)) ≡ word separator left line
unfolding word
next_word separator left later line one_less = rw one_less

abbrev pub same_letter : ℕ × ℕ → Bool
same_letter (byte, letter) = nat_eq (small byte) letter

-- as long as one another, and letter by letter the same
pub letter_by_letter : (word name : List ℕ) → (nat_eq (length word) (length name) && list_all same_letter (zip word name)) ≡ is_word word name
unfolding is_word
letter_by_letter [] [] = refl
letter_by_letter [] (letter ∷ name) = rw (ne_eqb 0 (suc (length name)) (λ e. omega arith))
letter_by_letter (byte ∷ word) [] = rw (ne_eqb (suc (length word)) 0 (λ e. omega arith))
letter_by_letter (byte ∷ word) (letter ∷ name) = grind (arith, common_steps, letter_by_letter word name)
