-- The separator of a text, sought line by line.
use mathlib.Core.Path.{◌≡◌, ap, ◌∙◌}
use mathlib.Core.List.{List, [], ◌∷◌}
use Prim.Native.Nat.{ℕ}
use Rattle.std.specs.Prelude.{None, Some}
use Rattle.std.specs.List.{slice_get}
use Rattle.text.specs.Search.{is_separator, from}
use Rattle.line_parts.specs.Cells.{first_byte_or, separator_in}

first_byte_is : (other : ℕ) (rest : List ℕ) (first : ℕ) → Some first ≡ slice_get rest 0 → first ≡ first_byte_or other rest
first_byte_is other [] first e = cc
first_byte_is other (byte ∷ rest) first e = cc

no_first_byte : (other : ℕ) (rest : List ℕ) → None ≡ slice_get rest 0 → other ≡ first_byte_or other rest
no_first_byte other [] e = cc
no_first_byte other (byte ∷ rest) e = cc

module _ (line : List ℕ) (others : List (List ℕ)) (rest : List ℕ) (is : rest ≡ from is_separator line) where
  by_first_byte : first_byte_or (separator_in others) rest ≡ separator_in (line ∷ others)
  unfolding separator_in
  by_first_byte = ap (first_byte_or (separator_in others)) is

  pub separator_here : (first : ℕ) → Some first ≡ slice_get rest 0 → first ≡ separator_in (line ∷ others)
  separator_here first e = first_byte_is (separator_in others) rest first e ∙ by_first_byte

  pub separator_later : None ≡ slice_get rest 0 → separator_in others ≡ separator_in (line ∷ others)
  separator_later e = no_first_byte (separator_in others) rest e ∙ by_first_byte
