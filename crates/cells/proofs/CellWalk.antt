-- A walk through the cells of rows of n, n − 1, … cells: where the next one stands, and what the cells that are behind leave.
use mathlib.Core.Path.{◌≡◌, ap}
use mathlib.Core.Bool.{Bool}
use Prim.Native.Nat.{ℕ, ◌+◌, ◌-◌, ◌≤◌, ◌<◌}
use mathlib.Core.List.{List}
use native.Mathlib.Numerals.{add-one}
use native.Mathlib.Omega.{arith}
use lib.ListN.{get_or}
use Rattle.method.specs.Limits.{most_accident_years}
use Rattle.method.specs.Triangle.{amounts_length, cells_before, cell}
use Rattle.method.specs.Verdicts.{Verdict, at, ask, first_to, each_in_row}
use Rattle.method.proofs.Positions.{cell_inside, cell_at}
use Rattle.verdicts.proofs.Counts.{few_cells}

-- the verdict on cell (i, k)
abbrev pub cell_verdict : ℕ → (ℕ → ℕ → Bool) → ℕ → ℕ → Verdict
cell_verdict question test i k = ask (test i k) question (at i k)

pub row_is : (n question : ℕ) (test : ℕ → ℕ → Bool) (r : ℕ) → r < n
    → first_to (n - r) (cell_verdict question test (r + 1)) ≡ each_in_row n question test (r + 1)
unfolding each_in_row
row_is n question test r h =
    let e : n - r ≡ n + 1 - (r + 1) = omega arith in
    ap (λ (x : ℕ). first_to x (cell_verdict question test (r + 1))) e

-- a cell stands inside its list, which is short
pub place_inside : (n r j : ℕ) → n ≤ most_accident_years → r + j < n
    → (cells_before n r + j < amounts_length n) × (cells_before n r + j < 1024)
place_inside n r j few h = let inside = cell_inside n r j h in (inside, omega (arith, few_cells n (n + 1) few (omega arith)))

-- and is the number there
pub cell_here : {X : Type 0} (none : X) (n : ℕ) (xs : List X) (r j : ℕ) → cell none n xs (r + 1) (j + 1) ≡ get_or xs (cells_before n r + j) none
cell_here none n xs r j = rw (add-one r, add-one j) (cell_at none n xs r j)
