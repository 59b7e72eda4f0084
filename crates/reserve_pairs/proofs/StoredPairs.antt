-- Pairs stored one after another from the start of a list.
use mathlib.Core.Path.{◌≡◌, sym, ap, ◌∙◌}
use mathlib.Core.List.{List, [], ◌∷◌}
use Prim.Native.Nat.{ℕ, ◌+◌, ◌*◌, ◌<◌}
use native.Mathlib.Numerals.{add-one}
use native.Mathlib.Omega.{arith}
use lib.IntN.{ℤ, pos}
use lib.ListN.{length, get_or, set, take}
use lib.Seq.{sets, length-sets, take_all, take-suc, length-take-le}
use lib.Ieee.{Float}
use Rattle.lists.proofs.Stored.{sets_append, sets_filled}
use Rattle.floats.specs.WholeNumbers.{float_of}
use Rattle.workbook.specs.Pairs.{whole_units, remaining_millionths, pairs}
use Rattle.workbook.proofs.Pairs.{length_pairs, pairs_append}

module _ (l : List Float) (amounts : List ℤ) where
  pub one_more_pair : (j : ℕ) → j < length amounts
      → let z = get_or amounts j (pos 0) in
      set (set (sets l 0 (pairs (take j amounts))) (2 * j) (float_of (whole_units z))) (2 * j + 1) (float_of (remaining_millionths z))
      ≡ sets l 0 (pairs (take (j + 1) amounts))
  unfolding pairs
  one_more_pair j h =
      let z = get_or amounts j (pos 0) in
      let stored = pairs (take j amounts) in
      let one = pairs (z ∷ []) in
      let place : 2 * j ≡ 0 + length stored = omega (arith, length_pairs (take j amounts), length-take-le j amounts (omega arith)) in
      ap (λ (x : ℕ). set (set (sets l 0 stored) (2 * j) (float_of (whole_units z))) x (float_of (remaining_millionths z))) (add-one (2 * j))
      ∙ ap (λ (x : ℕ). sets (sets l 0 stored) x one) place
      ∙ sets_append l 0 stored one
      ∙ ap (sets l 0) (sym (pairs_append (take j amounts) (z ∷ [])))
      ∙ ap (λ (xs : List ℤ). sets l 0 (pairs xs)) (sym (ap (λ (x : ℕ). take x amounts) (add-one j) ∙ take-suc amounts j (pos 0) h))

  pub all_pairs : length l ≡ 2 * length amounts → sets l 0 (pairs amounts) ≡ pairs amounts
  all_pairs h =
      sym (take_all (0 + length (pairs amounts)) (sets l 0 (pairs amounts)) (omega (arith, length-sets l 0 (pairs amounts), length_pairs amounts)))
      ∙ sets_filled (pairs amounts) l 0 (omega (arith, length_pairs amounts))
