-- Where the figures stand in the two answer lists: three for an unseen cell, three for an accident year.
-- Every place of the two lists is one of these: laws `every_future_place` and `every_reserves_place` in proofs/Lists.antt.
use Rattle.std.specs.Prelude.{List, ℕ, zero, suc, ◌+◌, ◌*◌, ◌-◌, ◌≤◌, ◌<◌, ℤ, pos, get_or}

-- cell (i, k + 1) is unseen
pub record Projected (n i k : ℕ) : Type 0 where
  pub row : i ≤ n
  pub after : n < i + k
  pub year : k < n

pub record AccidentYear (n i : ℕ) : Type 0 where
  pub first : 1 ≤ i
  pub last : i ≤ n

-- the number of unseen cells in the rows before row i; row r has r − 1 of them
unfoldable pub unseen_before : ℕ → ℕ
unseen_before zero = 0
unseen_before (suc r) = unseen_before r + (r - 1)

-- of cell (i, k + 1) in the future list of n years: 0 is the payment, 1 the adjustment, 2 the outstanding
unfoldable pub cell_figure : ℕ → List ℤ → ℕ → ℕ → ℕ → ℤ
cell_figure n future which i k = get_or future (3 * (unseen_before i + (i + k - suc n)) + which) (pos 0)

-- of accident year i in the reserve list: 0 is the paid reserve, 1 the incurred reserve, 2 the closing outstanding
unfoldable pub year_figure : List ℤ → ℕ → ℕ → ℤ
year_figure reserves which i = get_or reserves (3 * (i - 1) + which) (pos 0)
