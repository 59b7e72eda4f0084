-- The bytes of a quoted text of plain characters.
use Rattle.std.specs.Prelude.{List, [], ◌∷◌, ℕ}
use Prim.Native.Char.{code}
use Prim.Native.String.{String}
use Prim.Native.String as quoted

abbrev pub bytes : String → List ℕ
bytes quoted.[] = []
bytes (quoted.◌∷◌ character text) = code character ∷ bytes text
