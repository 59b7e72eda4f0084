-- A template with numbers in its places.
use Rattle.std.specs.Prelude.{cond, List, [], ◌∷◌, ◌++◌, ℕ, ◌+◌, eqb, ℤ, pos, get_or, drop}
use Prim.Native.Char.{code}
use Rattle.written_figures.specs.Writing.{whole_text}

-- the byte that holds the place of a number
abbrev pub place : ℕ
place = code "@"

abbrev pub stands_for : ℕ → ℤ → List ℕ
stands_for byte number = cond (eqb byte place) (whole_text number) (byte ∷ [])

-- A template with the numbers in their order in its places. A place without a number holds 0.
unfoldable pub filled : List ℕ → List ℤ → List ℕ
filled [] numbers = []
filled (byte ∷ template) numbers =
    stands_for byte (get_or numbers 0 (pos 0)) ++ filled template (cond (eqb byte place) (drop 1 numbers) numbers)

-- The number of places of a template.
unfoldable pub places : List ℕ → ℕ
places [] = 0
places (byte ∷ template) = cond (eqb byte place) 1 0 + places template
