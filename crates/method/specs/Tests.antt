-- What document 01's questions ask of one number, each test named once. In a cell (i, k), Y is the cut.
use Rattle.std.specs.Prelude.{Bool, not, ◌&&◌, ◌||◌, ℕ, ◌+◌, leb, eqb, ℤ, pos, neg_ℤ, ◌-ℤ◌, nat_abs}
use Rattle.std.specs.Int.Signed.{le_z}
use Rattle.integers.specs.Fraction.{size}
use Rattle.method.specs.Limits.{fewest_years, most_years, greatest_weight, greatest_amount, greatest_outstanding, greatest_figure}
use Rattle.method.specs.Triangle.{missing}

abbrev pub from_to : ℤ → ℤ → ℤ → Bool
from_to low high x = le_z low x && le_z x high

abbrev pub is_zero : ℤ → Bool
is_zero x = eqb (nat_abs x) 0

-- Question 1, of n.
unfoldable pub years_in_range : ℤ → Bool
years_in_range years = from_to fewest_years most_years years

-- Question 2, of the cut, for n from question 1.
unfoldable pub cut_in_range : ℤ → ℤ → Bool
cut_in_range years cut = from_to (pos 1) (years -ℤ pos 1) cut

-- Question 4, of a weight.
unfoldable pub weight_in_range : ℤ → Bool
weight_in_range x = from_to (pos 0) greatest_weight x

-- 0 where missing, which is where i + k is at most Y
unfoldable pub zero_where_missing : ℕ → ℕ → ℕ → ℤ → Bool
zero_where_missing Y i k x = not (missing Y i k) || is_zero x

-- Question 5, of a payment or an adjustment: in range, and 0 where missing.
unfoldable pub amount_right : ℕ → ℕ → ℕ → ℤ → Bool
amount_right Y i k x = from_to (neg_ℤ greatest_amount) greatest_amount x && zero_where_missing Y i k x

-- An outstanding is known from its row's opening on, which stands at year Y − i.
unfoldable pub known : ℕ → ℕ → ℕ → Bool
known Y i k = leb Y (i + k)

-- Question 6, of an opening or an observed outstanding.
unfoldable pub outstanding_in_range : ℕ → ℕ → ℕ → ℤ → Bool
outstanding_in_range Y i k x = not (known Y i k) || from_to (pos 0) greatest_outstanding x

-- Question 7, of a weight: 0 wherever i + k is at most Y.
unfoldable pub weight_allowed : ℕ → ℕ → ℕ → ℤ → Bool
weight_allowed Y i k x = zero_where_missing Y i k x

-- Question 9, of a projected figure.
unfoldable pub figure_in_range : ℤ → Bool
figure_in_range x = le_z (size x) greatest_figure
