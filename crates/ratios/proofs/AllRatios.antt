-- The ratios of a whole triangle, development year by development year, with the outstandings of the year at hand.
use mathlib.Core.Path.{◌≡◌, refl, sym, ap, subst, ◌∙◌}
use mathlib.Core.List.{List}
use Prim.Native.Nat.{ℕ, suc, ◌+◌, ◌-◌, ◌≤◌, ◌<◌}
use native.Mathlib.Numerals.{add-one}
use native.Mathlib.Decide.{dec_le}
use native.Mathlib.Omega.{arith}
use lib.IntN.{ℤ, pos, ◌+ℤ◌, ◌-ℤ◌, ◌*ℤ◌, nat_abs}
use lib.ListN.{length, get_or, set, replicate, length-replicate}
use Rattle.integers.proofs.Order.{nat_abs_in_range}
use Rattle.lists.proofs.Places.{blank, FilledTo, none_filled, one_more_filled}
use Rattle.method.specs.Limits.{greatest_outstanding, most_accident_years, most_ratios}
use Rattle.method.specs.Triangle.{Triangle, n, S, T, w, entry}
use Rattle.method.specs.Outstandings.{R, sums}
use Rattle.method.proofs.QuestionFacts.{Observed}
use Rattle.method.proofs.Readings.{R_in_range}
use Rattle.method.proofs.Positions.{entry_at}
use Rattle.method.proofs.Sums.{sum_same}
use Rattle.method.proofs.SumBounds.{weight_size}
use Rattle.ratios.specs.declared.Sums.{Sums}
use Rattle.ratios.specs.Ratios.{sums_of, no_sums, partial_sums, DevelopmentOf, FirstYear, FirstOutstandings, DevelopmentYearInput, MovedOn}
use Rattle.ratios.proofs.DevelopmentYear.{same_sums}

-- ---- What questions 1 to 7 leave, as the code wants it

module _ (t : Triangle) (ok : Observed t) where
  outstanding_size : (r k : ℕ) → r + k ≤ n t → nat_abs (R t (suc r) k) ≤ nat_abs greatest_outstanding
  outstanding_size r k l = nat_abs_in_range (R t (suc r) k) (R_in_range t ok (suc r) k (omega arith) (omega arith))

  pub first_year : FirstYear (n t) t.payments t.adjustments t.openings
  unfolding R
  first_year = record {
    most = ok.years.most;
    payments_length = ok.lengths.payments;
    adjustments_length = ok.lengths.adjustments;
    payment_size = λ r l. (ok.payment (suc r) 1 (omega arith) (omega arith) (omega arith)).in_range;
    adjustment_size = λ r l. (ok.adjustment (suc r) 1 (omega arith) (omega arith) (omega arith)).in_range;
    opening_size = λ r l. outstanding_size r 0 (omega arith);
  }

  pub year_input : (k : ℕ) (outstandings : List ℤ) → 1 ≤ k → k < n t → length outstandings ≡ most_accident_years
      → ((r : ℕ) → r + k ≤ n t → get_or outstandings r (pos 0) ≡ R t (suc r) k)
      → DevelopmentYearInput (n t) k t.payments t.adjustments t.weights outstandings
  year_input k outstandings p q long e = record {
    most = ok.years.most;
    first = p;
    last = q;
    payments_length = ok.lengths.payments;
    adjustments_length = ok.lengths.adjustments;
    weights_length_right = ok.lengths.weights;
    weight_size = λ r l. weight_size t ok (suc r) k (omega arith) p (omega arith);
    payment_size = λ r l. (ok.payment (suc r) (suc k) (omega arith) (omega arith) (omega arith)).in_range;
    adjustment_size = λ r l. (ok.adjustment (suc r) (suc k) (omega arith) (omega arith) (omega arith)).in_range;
    outstanding_size = λ r l. rw (e r (omega arith)) (outstanding_size r k (omega arith));
    outstandings_length = long;
  }

-- ---- The loop over the development years

-- the years before development year k are in their places, and the outstandings are those of year k, or the last observed ones
pub record YearsMade (t : Triangle) (years : List Sums) (outstandings : List ℤ) (k : ℕ) : Type 0 where
  pub first : 1 ≤ k
  pub last : k ≤ n t
  pub places : FilledTo no_sums (λ j s. sums_of s ≡ sums t (j + 1)) (replicate most_ratios no_sums) years (k - 1)
  pub outstandings_long : length outstandings ≡ most_accident_years
  pub at_hand : (r : ℕ) → r + k ≤ n t → get_or outstandings r (pos 0) ≡ R t (suc r) k
  pub behind : (r : ℕ) → n t < r + k → r < n t → get_or outstandings r (pos 0) ≡ R t (suc r) (n t - r)
  pub beyond : (r : ℕ) → n t ≤ r → get_or outstandings r (pos 0) ≡ pos 0

module _ (t : Triangle) where
  pub no_year_made : (outstandings : List ℤ) → 1 ≤ n t → FirstOutstandings (n t) t.payments t.adjustments t.openings outstandings
      → YearsMade t (replicate most_ratios no_sums) outstandings 1
  unfolding R
  no_year_made outstandings l f = record {
    first = omega arith;
    last = l;
    places = none_filled _;
    outstandings_long = f.long;
    at_hand = λ r h. f.first r (omega arith);
    behind = λ r h m. absurd (omega arith);
    beyond = f.beyond;
  }

  module _ (years : List Sums) (outstandings : List ℤ) (k : ℕ) (y : YearsMade t years outstandings k) where
    years_long : length years ≡ most_ratios
    years_long = y.places.same_length ∙ length-replicate most_ratios no_sums

    -- an outstanding at hand, or the last observed one
    behind : (r : ℕ) → n t ≤ r + k → r < n t → Dec (r + k ≤ n t) → get_or outstandings r (pos 0) ≡ R t (suc r) (n t - r)
    behind r h g (yes q) = let e : k ≡ n t - r = omega arith in y.at_hand r q ∙ ap (R t (suc r)) e
    behind r h g (no q) = y.behind r (omega arith) g

    -- the sums from the outstandings at hand are the year's
    same_year : sums t k ≡ partial_sums (n t) k t.payments t.adjustments t.weights outstandings (n t - k)
    unfolding sums partial_sums
    same_year = same_sums refl refl (sum_same (n t - k) (λ i. w t i k *ℤ R t i k) (λ i. w t i k *ℤ entry outstandings i) each)
      where
        each : (j : ℕ) → j < n t - k → w t (suc j) k *ℤ R t (suc j) k ≡ w t (suc j) k *ℤ entry outstandings (suc j)
        each j h = ap (λ x. w t (suc j) k *ℤ x) (sym (entry_at outstandings j ∙ y.at_hand j (omega arith)))

    pub one_more_year : (s : Sums) (next : List ℤ) → k < n t → n t ≤ most_accident_years
        → sums_of s ≡ partial_sums (n t) k t.payments t.adjustments t.weights outstandings (n t - k)
        → MovedOn (n t) k t.payments t.adjustments outstandings next
        → YearsMade t (set years (k - 1) s) next (k + 1)
    unfolding R
    one_more_year s next l few e m = record {
      first = omega arith;
      last = omega arith;
      places = subst (FilledTo no_sums (λ j s. sums_of s ≡ sums t (j + 1)) (replicate most_ratios no_sums) (set years (k - 1) s)) one_more
          (one_more_filled y.places (omega (arith, years_long)) here);
      outstandings_long = m.long;
      at_hand = λ r h. rw add-one (m.moved r (omega arith) ∙ ap (λ x. x -ℤ S t (suc r) (suc k) +ℤ T t (suc r) (suc k)) (y.at_hand r (omega arith)));
      behind = λ r h g. m.kept r (omega arith) ∙ behind r (omega arith) g (dec_le (r + k) (n t));
      beyond = λ r h. m.kept r (omega arith) ∙ y.beyond r h;
    }
      where
        one_more : k - 1 + 1 ≡ k + 1 - 1
        one_more = omega (arith, y.first)

        here : sums_of s ≡ sums t (k - 1 + 1)
        here = let year : k ≡ k - 1 + 1 = omega (arith, y.first) in e ∙ sym same_year ∙ ap (sums t) year

    pub all_years_made : n t ≤ k → DevelopmentOf t years outstandings
    all_years_made l = record {
      year = λ j h. y.places.filled j (omega arith);
      year_beyond = λ j h. y.places.kept j (omega (arith, y.last)) ∙ blank most_ratios j no_sums;
      outstanding = λ r h. rw add-one (behind r (omega arith) h (dec_le (r + k) (n t)));
      outstanding_beyond = y.beyond;
      ratios_long = years_long;
      outstandings_long = y.outstandings_long;
    }
