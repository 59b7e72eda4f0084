-- The width of a table's column.
use Rattle.std.specs.Prelude.{◌≡◌, ℕ, ◌-◌, ◌≤◌, ◌<◌}
use Rattle.printed.specs.Entries.{widest_from}

-- Whatever the widths are at the places from `start` on and before `end`, r is the largest of them and of `first`.
pub record WidestOf (IsWidth : ℕ → ℕ → Type 0) (first start end r : ℕ) : Type 0 where
  pub is : (width : ℕ → ℕ) → ((place w : ℕ) → start ≤ place → place < end → IsWidth place w → w ≡ width place)
      → r ≡ widest_from width first start (end - start)
