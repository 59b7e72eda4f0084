-- The outstandings of development year 1, accident year by accident year.
use mathlib.Core.Path.{◌≡◌, ◌∙◌}
use mathlib.Core.Logic.{inl}
use mathlib.Core.List.{List}
use Prim.Native.Nat.{ℕ, suc, ◌+◌, ◌≤◌, ◌<◌}
use native.Mathlib.Omega.{arith}
use lib.IntN.{ℤ, pos, ◌+ℤ◌, ◌-ℤ◌, nat_abs}
use lib.ListN.{length, get_or, set, replicate, length-replicate}
use Rattle.lists.proofs.Places.{blank, FilledTo, none_filled, one_more_filled}
use Rattle.method.specs.Limits.{greatest_amount, most_accident_years}
use Rattle.method.specs.Triangle.{amounts_length, cells_before, cell, entry}
use Rattle.method.proofs.Positions.{cell_of_place, cell_inside}
use Rattle.outstandings.specs.Observed.{Movable}
use Rattle.ratios.specs.Ratios.{FirstYear, FirstOutstandings}

-- the outstandings of the first r accident years are in their places, and zeros in the others
pub record Placed (n : ℕ) (payments adjustments openings outstandings : List ℤ) (r : ℕ) : Type 0 where
  pub rows : r ≤ n
  pub places : FilledTo (pos 0) (λ j o. o ≡ entry openings (suc j) -ℤ cell (pos 0) n payments (suc j) 1 +ℤ cell (pos 0) n adjustments (suc j) 1)
      (replicate most_accident_years (pos 0)) outstandings r

module _ (n : ℕ) (payments adjustments openings : List ℤ) (ok : FirstYear n payments adjustments openings) where
  pub none_placed : Placed n payments adjustments openings (replicate most_accident_years (pos 0)) 0
  none_placed = record { rows = omega arith; places = none_filled _ }

  module _ (outstandings : List ℤ) (r : ℕ) (p : Placed n payments adjustments openings outstandings r) where
    long : length outstandings ≡ most_accident_years
    long = p.places.same_length ∙ length-replicate most_accident_years (pos 0)

    module _ (l : r < n) (start : ℕ) (start_is : start ≡ cells_before n r) where
      first_cell : (xs : List ℤ) → get_or xs start (pos 0) ≡ cell (pos 0) n xs (suc r) 1
      first_cell xs = cell_of_place (pos 0) n xs r 1 start (omega arith) (omega (arith, start_is))

      pub first_inside : start < amounts_length n
      first_inside = omega (arith, start_is, cell_inside n r 0 (omega arith))

      payment_small : nat_abs (get_or payments start (pos 0)) ≤ nat_abs greatest_amount
      payment_small = rw (first_cell payments) (ok.payment_size r l)

      adjustment_small : nat_abs (get_or adjustments start (pos 0)) ≤ nat_abs greatest_amount
      adjustment_small = rw (first_cell adjustments) (ok.adjustment_size r l)

      pub movable : Movable (entry openings (suc r)) (get_or payments start (pos 0)) (get_or adjustments start (pos 0))
      movable = record { payment_size = payment_small; adjustment_size = adjustment_small; in_range_or_unmoved = inl (ok.opening_size r l) }

      pub one_more_placed : (next : ℤ) → next ≡ entry openings (suc r) -ℤ get_or payments start (pos 0) +ℤ get_or adjustments start (pos 0)
          → Placed n payments adjustments openings (set outstandings r next) (r + 1)
      one_more_placed next e = record {
        rows = omega arith;
        places = one_more_filled p.places (omega (arith, long, ok.most)) (e ∙ rw (first_cell payments, first_cell adjustments));
      }

    pub all_placed : n ≤ r → FirstOutstandings n payments adjustments openings outstandings
    all_placed l = record {
      first = λ j h. p.places.filled j (omega arith);
      beyond = λ j h. p.places.kept j (omega (arith, p.rows)) ∙ blank most_accident_years j (pos 0);
      long = long;
    }
