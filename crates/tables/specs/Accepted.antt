-- What is printed of how a triangle was read. docs/FORMAT.md has these lines.
use Rattle.std.specs.Prelude.{Bool, true, false, List, [], ◌∷◌, ℕ, ℤ}
use Rattle.figures.specs.Bytes.{bytes}
use Rattle.printed.specs.Filling.{filled}

abbrev pub accepted_line : ℤ → ℤ → List ℕ
accepted_line years cut = filled (bytes "accepted: @ accident years, cut @") (years ∷ cut ∷ [])

-- whether the payments are cumulated, the adjustments are cumulated, and the weights are given
abbrev pub payments_line : Bool → List ℕ
payments_line true = bytes "Payments are read as cumulated figures."
payments_line false = bytes "Payments are read as incremental figures."

abbrev pub adjustments_line : Bool → List ℕ
adjustments_line true = bytes "Adjustments are read as cumulated figures, which are reported amounts."
adjustments_line false = bytes "Adjustments are read as incremental figures."

abbrev pub weights_line : Bool → List ℕ
weights_line true = bytes "Weights are read as given."
weights_line false = bytes "Weights are not given: each is 1, or 0 where its cell is missing."

-- where the cut is above 1
abbrev pub openings_line : List ℕ
openings_line = bytes "Openings are read as given."
