-- What question 6 is asked of, and what a movement of an outstanding needs.
use Rattle.std.specs.Prelude.{◌≡◌, ◌⊎◌, List, [], ℕ, ◌≤◌, ℤ, pos, nat_abs, length}
use Rattle.method.specs.Limits.{greatest_amount, greatest_outstanding, most_accident_years}
use Rattle.method.specs.Triangle.{amounts_length, openings_length}
use Rattle.method.specs.Verdicts.{accepted}
use Rattle.method.specs.Questions.{question_5}
use Rattle.lent.specs.Triangles.{counted}

-- an outstanding and a year's movement, of which no sum passes 64 bits: all are in range, or nothing moves
pub record Movable (outstanding payment adjustment : ℤ) : Type 0 where
  pub payment_size : nat_abs payment ≤ nat_abs greatest_amount
  pub adjustment_size : nat_abs adjustment ≤ nat_abs greatest_amount
  pub in_range_or_unmoved : (nat_abs outstanding ≤ nat_abs greatest_outstanding) ⊎ ((payment ≡ pos 0) × (adjustment ≡ pos 0))

-- lists that have passed question 5, which reads no weight
pub record AmountsRight (n cut : ℕ) (payments adjustments openings : List ℤ) : Type 0 where
  pub most : n ≤ most_accident_years
  pub payments_length : length payments ≡ amounts_length n
  pub adjustments_length : length adjustments ≡ amounts_length n
  pub openings_length_right : length openings ≡ openings_length cut
  pub passed : question_5 (counted n cut payments adjustments [] openings) ≡ accepted
