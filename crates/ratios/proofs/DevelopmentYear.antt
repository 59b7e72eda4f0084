-- One development year: the sums grow accident year by accident year, each outstanding moves on, and all of it stays within 64 bits.
use mathlib.Core.Path.{◌≡◌, sym, ap, ◌∙◌}
use mathlib.Core.Logic.{inl}
use mathlib.Core.List.{List}
use Prim.Native.Nat.{ℕ, zero, suc, ◌+◌, ◌-◌, ◌≤◌, ◌<◌}
use native.Mathlib.Numerals.{add-one}
use native.Mathlib.Omega.{arith}
use lib.Dec.{lit<}
use lib.IntN.{ℤ, pos, ◌+ℤ◌, ◌-ℤ◌, ◌*ℤ◌, nat_abs}
use lib.ListN.{length, get_or, set}
use mir.Syntax.{w64}
use mir.Val.{SFits}
use Rattle.integers.proofs.Order.{nat_abs-+ℤ}
use Rattle.integers.proofs.MachineArithmetic.{fits_nat_abs}
use Rattle.lists.proofs.Places.{FilledTo, none_filled, one_more_filled}
use Rattle.method.specs.SumLimits.{greatest_term, greatest_sum}
use Rattle.method.specs.Limits.{greatest_amount, greatest_outstanding, most_accident_years}
use Rattle.method.specs.Counting.{sum_to}
use Rattle.method.specs.Triangle.{amounts_length, cells_before, cell, entry}
use Rattle.method.specs.Outstandings.{Sums}
use Rattle.method.proofs.Positions.{cells_before_none, cells_before_more, cell_of_place, entry_at, cell_inside, weights_length_is}
use Rattle.method.proofs.Sums.{sum_none, sum_more}
use Rattle.method.proofs.SumBounds.{term_size, few_terms}
use Rattle.outstandings.specs.Observed.{Movable}
use Rattle.ratios.specs.Ratios.{partial_sums, MovedOn, DevelopmentYearInput, with_row, Summable, RowAddable}

-- ---- A term and a sum within 64 bits

module _ (sum weight amount : ℤ) (h : Summable sum weight amount) where
  term_small : nat_abs (weight *ℤ amount) ≤ greatest_term
  term_small = term_size weight amount h.weight_size h.amount_size

  pub term_fits : SFits w64 (weight *ℤ amount)
  term_fits = fits_nat_abs w64 (weight *ℤ amount) greatest_term term_small (lit< tt)

  pub sum_fits : SFits w64 (sum +ℤ weight *ℤ amount)
  sum_fits = fits_nat_abs w64 (sum +ℤ weight *ℤ amount) (greatest_sum + greatest_term)
      (omega (arith, nat_abs-+ℤ sum (weight *ℤ amount), h.sum_size, term_small)) (lit< tt)

-- ---- Three sums are those of document 01 where each is

pub same_sums : {p q d p' q' d' : ℤ} → p ≡ p' → q ≡ q' → d ≡ d' → ◌≡◌ {A = Sums} (record { P = p; Q = q; D = d }) (record { P = p'; Q = q'; D = d' })
same_sums a b c = cc

-- one accident year more
partial_sums_more : (n k : ℕ) (payments adjustments weights outstandings : List ℤ) (m : ℕ) → partial_sums n k payments adjustments weights outstandings (m + 1)
    ≡ with_row (partial_sums n k payments adjustments weights outstandings m)
    (cell (pos 0) (n - 1) weights (suc m) k) (cell (pos 0) n payments (suc m) (suc k)) (cell (pos 0) n adjustments (suc m) (suc k)) (entry outstandings (suc m))
unfolding partial_sums
partial_sums_more n k payments adjustments weights outstandings m = rw add-one (same_sums (sum_more m _) (sum_more m _) (sum_more m _))

-- ---- The loop over the accident years

-- after r accident years
pub record Summed (n k : ℕ) (payments adjustments weights before : List ℤ) (s : Sums) (after : List ℤ) (weight_at amount_at r : ℕ) : Type 0 where
  pub rows : r + k ≤ n
  pub sums_are : s ≡ partial_sums n k payments adjustments weights before r
  pub weight_place : weight_at ≡ cells_before (n - 1) r + (k - 1)
  pub amount_place : amount_at ≡ cells_before n r + k
  pub places : FilledTo (pos 0) (λ j o. o ≡ get_or before j (pos 0) -ℤ cell (pos 0) n payments (suc j) (suc k) +ℤ cell (pos 0) n adjustments (suc j) (suc k)) before after r

module _ (n k : ℕ) (payments adjustments weights before : List ℤ) (ok : DevelopmentYearInput n k payments adjustments weights before) where
  pub before_first_row : Summed n k payments adjustments weights before (record { P = pos 0; Q = pos 0; D = pos 0 }) before (k - 1) k 0
  unfolding partial_sums
  before_first_row = record {
    rows = omega (arith, ok.last);
    sums_are = same_sums (sym (sum_none _)) (sym (sum_none _)) (sym (sum_none _));
    weight_place = omega (arith, cells_before_none (n - 1));
    amount_place = omega (arith, cells_before_none n);
    places = none_filled before;
  }

  module _ (s : Sums) (after : List ℤ) (weight_at amount_at r : ℕ) (w : Summed n k payments adjustments weights before s after weight_at amount_at r) where
    long : length after ≡ most_accident_years
    long = w.places.same_length ∙ ok.outstandings_length

    module _ (l : r + k < n) where
      -- the outstanding that moves on next is as it was
      unmoved : get_or after r (pos 0) ≡ get_or before r (pos 0)
      unmoved = w.places.kept r (omega arith)

      weight_of : get_or weights weight_at (pos 0) ≡ cell (pos 0) (n - 1) weights (suc r) k
      weight_of = cell_of_place (pos 0) (n - 1) weights r k weight_at ok.first w.weight_place

      amount_of : (xs : List ℤ) → get_or xs amount_at (pos 0) ≡ cell (pos 0) n xs (suc r) (suc k)
      amount_of xs = cell_of_place (pos 0) n xs r (suc k) amount_at (omega arith) (omega (arith, w.amount_place))

      pub weight_inside : weight_at < length weights
      weight_inside =
          omega (arith, w.weight_place, cell_inside (n - 1) r (k - 1) (omega (arith, ok.first)), ok.weights_length_right, weights_length_is n (omega arith))

      pub amount_inside : amount_at < amounts_length n
      amount_inside = omega (arith, w.amount_place, cell_inside n r k l)

      -- a sum so far of amounts f 1, …, f r, and the amount x that comes next
      summable : (f : ℕ → ℤ) (x : ℤ) → ((j : ℕ) → j < r → nat_abs (f (suc j)) ≤ nat_abs greatest_amount) → nat_abs x ≤ nat_abs greatest_amount
          → Summable (sum_to r (λ i. cell (pos 0) (n - 1) weights i k *ℤ f i)) (get_or weights weight_at (pos 0)) x
      summable f x h small = record {
        sum_size = few_terms r (λ i. cell (pos 0) (n - 1) weights i k *ℤ f i) (omega (arith, ok.most, ok.first)) each;
        weight_size = rw weight_of (ok.weight_size r l);
        amount_size = small;
      }
        where
          each : (i : ℕ) → 1 ≤ i → i ≤ r → nat_abs (cell (pos 0) (n - 1) weights i k *ℤ f i) ≤ greatest_term
          each zero p q = absurd (omega arith)
          each (suc j) p q = term_size (cell (pos 0) (n - 1) weights (suc j) k) (f (suc j)) (ok.weight_size j (omega arith)) (h j (omega arith))

      payment_small : nat_abs (get_or payments amount_at (pos 0)) ≤ nat_abs greatest_amount
      payment_small = rw (amount_of payments) (ok.payment_size r l)

      adjustment_small : nat_abs (get_or adjustments amount_at (pos 0)) ≤ nat_abs greatest_amount
      adjustment_small = rw (amount_of adjustments) (ok.adjustment_size r l)

      outstanding_small : nat_abs (get_or after r (pos 0)) ≤ nat_abs greatest_outstanding
      outstanding_small = rw unmoved (ok.outstanding_size r l)

      pub addable : RowAddable s (get_or weights weight_at (pos 0)) (get_or payments amount_at (pos 0)) (get_or adjustments amount_at (pos 0)) (get_or after r (pos 0))
      unfolding partial_sums entry
      addable = rw w.sums_are (record {
        payments = summable (λ i. cell (pos 0) n payments i (suc k)) _ (λ j h. ok.payment_size j (omega arith)) payment_small;
        adjustments = summable (λ i. cell (pos 0) n adjustments i (suc k)) _ (λ j h. ok.adjustment_size j (omega arith)) adjustment_small;
        exposure = summable (entry before) _ (λ j h. ok.outstanding_size j (omega arith)) outstanding_small;
      })

      pub movable : Movable (get_or after r (pos 0)) (get_or payments amount_at (pos 0)) (get_or adjustments amount_at (pos 0))
      movable = record { payment_size = payment_small; adjustment_size = adjustment_small; in_range_or_unmoved = inl outstanding_small }

      pub next_row : (s' : Sums) (next : ℤ)
          → s' ≡ with_row s (get_or weights weight_at (pos 0)) (get_or payments amount_at (pos 0)) (get_or adjustments amount_at (pos 0)) (get_or after r (pos 0))
          → next ≡ get_or after r (pos 0) -ℤ get_or payments amount_at (pos 0) +ℤ get_or adjustments amount_at (pos 0)
          → Summed n k payments adjustments weights before s' (set after r next) (weight_at + (n - 1 - r)) (amount_at + (n - r)) (r + 1)
      next_row s' next e f = record {
        rows = omega arith;
        sums_are = e ∙ rw (w.sums_are, weight_of, amount_of payments, amount_of adjustments, unmoved ∙ sym (entry_at before r))
            (sym (partial_sums_more n k payments adjustments weights before r));
        weight_place = rw add-one (omega (arith, w.weight_place, cells_before_more (n - 1) r));
        amount_place = rw add-one (omega (arith, w.amount_place, cells_before_more n r));
        places = one_more_filled w.places (omega (arith, long, ok.most)) (f ∙ rw (unmoved, amount_of payments, amount_of adjustments));
      }

    pub all_rows : n ≤ r + k → (s ≡ partial_sums n k payments adjustments weights before (n - k)) × MovedOn n k payments adjustments before after
    all_rows l =
        let e : r ≡ n - k = omega (arith, w.rows) in (
          w.sums_are ∙ ap (partial_sums n k payments adjustments weights before) e,
          record { moved = λ j h. w.places.filled j (omega arith); kept = λ j h. w.places.kept j (omega arith); long = long },
        )
