-- Lines of which none is long.
use mathlib.Core.Path.{◌≡◌}
use mathlib.Core.List.{List, [], ◌∷◌}
use Prim.Native.Nat.{ℕ, suc, ◌≤◌}
use native.Mathlib.Omega.{arith}
use lib.ListN.{length}
use Rattle.std.specs.List.{All}

-- each of some lines has at most so many bytes
abbrev pub AllShort : ℕ → List (List ℕ) → Type 0
AllShort most all = All (λ (line : List ℕ). length line ≤ most) all

pub first_short : {most : ℕ} {all others : List (List ℕ)} {line : List ℕ} → AllShort most all → all ≡ line ∷ others → length line ≤ most
first_short short next = (rw next at short) 0 [] (omega arith)

pub others_short : {most : ℕ} {all others : List (List ℕ)} {line : List ℕ} → AllShort most all → all ≡ line ∷ others → AllShort most others
others_short short next = λ k d h. (rw next at short) (suc k) d (omega arith)
