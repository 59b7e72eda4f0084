-- The outstandings of one row as a loop makes them: each from the one before, within 64 bits, and tested where it is known.
use mathlib.Core.Path.{◌≡◌, refl, sym, ap, ap₂, ◌∙◌, subst}
use mathlib.Core.Logic.{◌⊎◌, inl, inr}
use mathlib.Core.Bool.{Bool}
use mathlib.Core.List.{List, []}
use Prim.Native.Nat.{ℕ, suc, ◌+◌, ◌-◌, ◌≤◌, ◌<◌}
use native.Mathlib.Numerals.{add-one}
use native.Mathlib.Decide.{dec_le}
use native.Mathlib.Omega.{arith}
use lib.IntN.{ℤ, pos, ◌+ℤ◌, ◌-ℤ◌, nat_abs}
use lib.ListN.{get_or, get_or-eq_default}
use mir.Syntax.{w64}
use mir.Val.{SFits}
use Rattle.integers.proofs.Difference.{fits→parts}
use Rattle.integers.proofs.RingSolver.{con, ◌:+◌, ◌:-◌}
use Rattle.integers.proofs.LinearFacts.{integers, fits_by}
use Rattle.integers.proofs.Order.{nat_abs_parts, nat_abs_in_range}
use Rattle.method.specs.Limits.{greatest_outstanding}
use Rattle.method.specs.Triangle.{Triangle, cells_before, entry}
use Rattle.method.specs.Outstandings.{R}
use Rattle.method.specs.Verdicts.{accepted, at, ask}
use Rattle.method.specs.Tests.{outstanding_in_range}
use Rattle.method.proofs.Tests.{says_outstanding}
use Rattle.method.proofs.QuestionFacts as facts
use Rattle.method.proofs.Positions.{cell_at, entry_at}
use Rattle.method.proofs.FirstRefusal.{ask_accepted, PassedSoFar, none_asked, next_accepted}
use Rattle.lent.specs.Triangles.{counted}
use Rattle.cells.proofs.CellWalk.{cell_verdict, cell_here}
use Rattle.outstandings.specs.Observed.{Movable, AmountsRight}

-- ---- A movement within 64 bits

pub less_payment_fits : (outstanding payment adjustment : ℤ) → SFits w64 outstanding → Movable outstanding payment adjustment → SFits w64 (outstanding -ℤ payment)
less_payment_fits o s t f m = go m.in_range_or_unmoved
  where
    go : (nat_abs o ≤ nat_abs greatest_outstanding) ⊎ ((s ≡ pos 0) × (t ≡ pos 0)) → SFits w64 (o -ℤ s)
    go (inl h) = fits_by w64 (con o :- con s) (omega (arith, m.payment_size, nat_abs_parts o, nat_abs_parts s))
    go (inr h) = fits_by w64 (con o :- con s) (omega (arith, integers, fits→parts f))

pub next_fits : (outstanding payment adjustment : ℤ) → SFits w64 outstanding → Movable outstanding payment adjustment
    → SFits w64 (outstanding -ℤ payment +ℤ adjustment)
next_fits o s t f m = go m.in_range_or_unmoved
  where
    go : (nat_abs o ≤ nat_abs greatest_outstanding) ⊎ ((s ≡ pos 0) × (t ≡ pos 0)) → SFits w64 (o -ℤ s +ℤ t)
    go (inl h) = fits_by w64 (con o :- con s :+ con t) (omega (arith, m.payment_size, m.adjustment_size, nat_abs_parts o, nat_abs_parts s, nat_abs_parts t))
    go (inr h) = fits_by w64 (con o :- con s :+ con t) (omega (arith, integers, fits→parts f))

-- ---- The loop over row r + 1, of which j cells are behind

module _ (n cut : ℕ) (payments adjustments weights openings : List ℤ) where
  abbrev t : Triangle
  t = counted n cut payments adjustments weights openings

  -- what question 6 asks
  abbrev pub in_range : ℕ → ℕ → Bool
  in_range i k = outstanding_in_range cut i k (R t i k)

  pub record YearsPassed (r : ℕ) (outstanding : ℤ) (j : ℕ) : Type 0 where
    pub so_far : PassedSoFar (n - r) (cell_verdict 6 in_range (r + 1)) j
    pub is : outstanding ≡ R t (r + 1) j
    pub in_range_or_unknown : (nat_abs outstanding ≤ nat_abs greatest_outstanding) ⊎ (r + 1 + j < cut)

  -- the outstanding of the next year, from the numbers where its cell stands
  R_next : (r j : ℕ) → R t (r + 1) (j + 1)
      ≡ R t (r + 1) j -ℤ get_or payments (cells_before n r + j) (pos 0) +ℤ get_or adjustments (cells_before n r + j) (pos 0)
  unfolding R
  R_next r j = rw (add-one r, add-one j)
      (ap₂ (λ (x y : ℤ). R t (suc r) j -ℤ x +ℤ y) (cell_at (pos 0) n payments r j) (cell_at (pos 0) n adjustments r j))

  module _ (right : AmountsRight n cut payments adjustments openings) (r : ℕ) where
    pub before_first_year : YearsPassed r (entry openings (suc r)) 0
    unfolding R
    before_first_year = record {
      so_far = none_asked _ _;
      is = rw add-one refl;
      in_range_or_unknown = go (dec_le cut (r + 1));
    }
      where
        no_opening : cut ≤ r + 1 → entry openings (suc r) ≡ pos 0
        no_opening h = entry_at openings r ∙ get_or-eq_default openings (pos 0) (omega (arith, right.openings_length_right))

        go : Dec (cut ≤ r + 1) → (nat_abs (entry openings (suc r)) ≤ nat_abs greatest_outstanding) ⊎ (r + 1 + 0 < cut)
        go (yes h) = inl (subst (λ (x : ℤ). nat_abs x ≤ nat_abs greatest_outstanding) (sym (no_opening h)) (omega arith))
        go (no h) = inr (omega arith)

    module _ (j : ℕ) (l : r + j < n) where
      -- what question 5 leaves of a cell
      abbrev unweighted : Triangle
      unweighted = counted n cut payments adjustments [] openings

      paid : facts.AmountRight cut (r + 1) (j + 1) (get_or payments (cells_before n r + j) (pos 0))
      paid = rw cell_here at (facts.payments_right unweighted right.passed (r + 1) (j + 1) (omega arith) (omega arith) (omega arith))

      adjusted : facts.AmountRight cut (r + 1) (j + 1) (get_or adjustments (cells_before n r + j) (pos 0))
      adjusted = rw cell_here at (facts.adjustments_right unweighted right.passed (r + 1) (j + 1) (omega arith) (omega arith) (omega arith))

      module _ (outstanding : ℤ) (s : YearsPassed r outstanding j) where
        pub movable : Movable outstanding (get_or payments (cells_before n r + j) (pos 0)) (get_or adjustments (cells_before n r + j) (pos 0))
        movable = record {
          payment_size = paid.in_range;
          adjustment_size = adjusted.in_range;
          in_range_or_unmoved = go s.in_range_or_unknown;
        }
          where
            go : (nat_abs outstanding ≤ nat_abs greatest_outstanding) ⊎ (r + 1 + j < cut)
                → (nat_abs outstanding ≤ nat_abs greatest_outstanding) ⊎ ((get_or payments (cells_before n r + j) (pos 0) ≡ pos 0) × (get_or adjustments (cells_before n r + j) (pos 0) ≡ pos 0))
            go (inl h) = inl h
            go (inr h) = inr (paid.zero_up_to_cut (omega arith), adjusted.zero_up_to_cut (omega arith))

        module _ (next : ℤ) (e : next ≡ outstanding -ℤ get_or payments (cells_before n r + j) (pos 0) +ℤ get_or adjustments (cells_before n r + j) (pos 0)) where
          next_is : next ≡ R t (r + 1) (j + 1)
          next_is = rw (R_next r j, ← s.is) e

          -- the verdict on it is document 01's
          pub next_verdict : ask (outstanding_in_range cut (r + 1) (j + 1) next) 6 (at (r + 1) (j + 1)) ≡ cell_verdict 6 in_range (r + 1) (j + 1)
          next_verdict = ap (λ (x : ℤ). ask (outstanding_in_range cut (r + 1) (j + 1) x) 6 (at (r + 1) (j + 1))) next_is

          pub next_year_passed : ask (outstanding_in_range cut (r + 1) (j + 1) next) 6 (at (r + 1) (j + 1)) ≡ accepted → YearsPassed r next (j + 1)
          next_year_passed p = record {
            so_far = next_accepted s.so_far (omega arith) (sym next_verdict ∙ p);
            is = next_is;
            in_range_or_unknown = go (dec_le cut (r + 1 + (j + 1)));
          }
            where
              go : Dec (cut ≤ r + 1 + (j + 1)) → (nat_abs next ≤ nat_abs greatest_outstanding) ⊎ (r + 1 + (j + 1) < cut)
              go (yes h) = inl (nat_abs_in_range next ((says_outstanding cut (r + 1) (j + 1) next).sound (ask_accepted _ _ _ p) h))
              go (no h) = inr (omega arith)
