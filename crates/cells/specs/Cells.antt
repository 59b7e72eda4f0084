-- What is asked of every cell of a list whose rows have n, n − 1, … cells. Row and cell are counted from 0 by r and j, as a loop does.
use Rattle.std.specs.Prelude.{◌≡◌, Bool, List, ℕ, ◌+◌, ◌<◌, ℤ, pos}
use Rattle.method.specs.Triangle.{cell, cells_before}
use Rattle.method.specs.Verdicts.{Verdict, each_cell}

-- a claim on the place in the list and on the years of every cell
abbrev pub AtEachCell : ℕ → (ℕ → ℕ → ℕ → Type 0) → Type 0
AtEachCell n claim = (r j : ℕ) → r + j < n → claim (cells_before n r + j) (r + 1) (j + 1)

-- whatever is answered of a cell is the test of it
abbrev pub Answers : ℕ → (ℕ → ℕ → ℕ → Bool → Type 0) → (ℕ → ℕ → Bool) → Type 0
Answers n answered test = AtEachCell n (λ place i k. (b : Bool) → answered place i k b → b ≡ test i k)

-- a question with a test of the number of every cell
unfoldable pub whole_list : ℕ → (ℕ → ℕ → ℤ → Bool) → ℕ → List ℤ → Verdict
whole_list question passes n xs = each_cell n question (λ i k. passes i k (cell (pos 0) n xs i k))
