-- The development of a whole triangle; and as the code makes it, development year by development year with one column of outstandings:
-- what the functions ask and answer.
use Rattle.std.specs.Prelude.{◌≡◌, true, List, ℕ, suc, ◌+◌, ◌-◌, ◌≤◌, ◌<◌, ℤ, pos, ◌+ℤ◌, ◌-ℤ◌, ◌*ℤ◌, nat_abs, length, get_or}
use Rattle.method.specs.SumLimits.{greatest_sum}
use Rattle.method.specs.Limits.{most_accident_years, most_ratios, greatest_weight, greatest_amount, greatest_outstanding}
use Rattle.method.specs.Counting.{sum_to}
use Rattle.method.specs.Triangle.{Triangle, n, amounts_length, weights_length, cell, entry}
use Rattle.method.specs.Outstandings as meaning
use Rattle.method.specs.Outstandings.{R, sums}
use Rattle.method.specs.Verdicts.{accepted}
use Rattle.method.specs.Questions.{input_lengths_right, input_questions}
use Rattle.ratios.specs.declared.Sums.{Sums}
use Rattle.ratios.specs.declared.Development.{Development}

-- ---- The sums of the code and of document 01

abbrev pub sums_of : Sums → meaning.Sums
sums_of s = record { P = s.payments; Q = s.adjustments; D = s.exposure }

abbrev pub no_sums : Sums
no_sums = record { payments = pos 0; adjustments = pos 0; exposure = pos 0 }

-- the sums of development year k, which stand at k − 1
abbrev pub sums_at : List Sums → ℕ → meaning.Sums
sums_at ratios k = sums_of (get_or ratios (k - 1) no_sums)

-- ---- A whole triangle

-- Every place of both lists: the ratios of development year j + 1, as its sums, at j, and the last observed outstanding of accident year
-- r + 1 at r; zeros beyond. It leaves one answer: law `one_development` in proofs/OneDevelopment.antt.
pub record DevelopmentOf (t : Triangle) (ratios : List Sums) (outstandings : List ℤ) : Type 0 where
  pub year : (j : ℕ) → j + 1 < n t → sums_of (get_or ratios j no_sums) ≡ sums t (j + 1)
  pub year_beyond : (j : ℕ) → n t ≤ j + 1 → get_or ratios j no_sums ≡ no_sums
  pub outstanding : (r : ℕ) → r < n t → get_or outstandings r (pos 0) ≡ R t (r + 1) (n t - r)
  pub outstanding_beyond : (r : ℕ) → n t ≤ r → get_or outstandings r (pos 0) ≡ pos 0
  pub ratios_long : length ratios ≡ most_ratios
  pub outstandings_long : length outstandings ≡ most_accident_years

abbrev pub with_cut : Triangle → ℤ → Triangle
with_cut t cut = record t { cut = cut }

-- a triangle that has passed questions 1 to 7; its cut is not needed to form a ratio, and may be another
pub record Readable (t : Triangle) : Type 0 where
  pub cut : ℤ
  pub inputs_right : input_lengths_right (with_cut t cut) ≡ true
  pub passed : input_questions (with_cut t cut) true ≡ accepted

-- whatever its cut
pub record DevelopmentRead (t : Triangle) (d : Development) : Type 0 where
  pub development : (cut : ℤ) → DevelopmentOf (with_cut t cut) d.ratios d.outstandings

-- ---- The outstandings of development year 1

pub record FirstYear (n : ℕ) (payments adjustments openings : List ℤ) : Type 0 where
  pub most : n ≤ most_accident_years
  pub payments_length : length payments ≡ amounts_length n
  pub adjustments_length : length adjustments ≡ amounts_length n
  pub payment_size : (r : ℕ) → r < n → nat_abs (cell (pos 0) n payments (suc r) 1) ≤ nat_abs greatest_amount
  pub adjustment_size : (r : ℕ) → r < n → nat_abs (cell (pos 0) n adjustments (suc r) 1) ≤ nat_abs greatest_amount
  pub opening_size : (r : ℕ) → r < n → nat_abs (entry openings (suc r)) ≤ nat_abs greatest_outstanding

pub record FirstOutstandings (n : ℕ) (payments adjustments openings outstandings : List ℤ) : Type 0 where
  pub first : (r : ℕ) → r < n
      → get_or outstandings r (pos 0) ≡ entry openings (suc r) -ℤ cell (pos 0) n payments (suc r) 1 +ℤ cell (pos 0) n adjustments (suc r) 1
  pub beyond : (r : ℕ) → n ≤ r → get_or outstandings r (pos 0) ≡ pos 0
  pub long : length outstandings ≡ most_accident_years

-- ---- One development year

-- the sums of development year k over the first m accident years, from the outstandings of that year
unfoldable pub partial_sums : ℕ → ℕ → List ℤ → List ℤ → List ℤ → List ℤ → ℕ → meaning.Sums
partial_sums n k payments adjustments weights outstandings m = record {
  P = sum_to m (λ i. cell (pos 0) (n - 1) weights i k *ℤ cell (pos 0) n payments i (suc k));
  Q = sum_to m (λ i. cell (pos 0) (n - 1) weights i k *ℤ cell (pos 0) n adjustments i (suc k));
  D = sum_to m (λ i. cell (pos 0) (n - 1) weights i k *ℤ entry outstandings i);
}

-- the outstandings of year k + 1 where that year is observed, and the others as they were
pub record MovedOn (n k : ℕ) (payments adjustments before after : List ℤ) : Type 0 where
  pub moved : (r : ℕ) → r + k < n
      → get_or after r (pos 0) ≡ get_or before r (pos 0) -ℤ cell (pos 0) n payments (suc r) (suc k) +ℤ cell (pos 0) n adjustments (suc r) (suc k)
  pub kept : (r : ℕ) → n ≤ r + k → get_or after r (pos 0) ≡ get_or before r (pos 0)
  pub long : length after ≡ most_accident_years

pub record DevelopmentYearInput (n k : ℕ) (payments adjustments weights outstandings : List ℤ) : Type 0 where
  pub most : n ≤ most_accident_years
  pub first : 1 ≤ k
  pub last : k < n
  pub payments_length : length payments ≡ amounts_length n
  pub adjustments_length : length adjustments ≡ amounts_length n
  pub weights_length_right : length weights ≡ weights_length n
  pub weight_size : (r : ℕ) → r + k < n → nat_abs (cell (pos 0) (n - 1) weights (suc r) k) ≤ nat_abs greatest_weight
  pub payment_size : (r : ℕ) → r + k < n → nat_abs (cell (pos 0) n payments (suc r) (suc k)) ≤ nat_abs greatest_amount
  pub adjustment_size : (r : ℕ) → r + k < n → nat_abs (cell (pos 0) n adjustments (suc r) (suc k)) ≤ nat_abs greatest_amount
  pub outstanding_size : (r : ℕ) → r + k < n → nat_abs (get_or outstandings r (pos 0)) ≤ nat_abs greatest_outstanding
  pub outstandings_length : length outstandings ≡ most_accident_years

-- one accident year more
abbrev pub with_row : meaning.Sums → ℤ → ℤ → ℤ → ℤ → meaning.Sums
with_row s weight payment adjustment outstanding = record {
  P = s.P +ℤ weight *ℤ payment;
  Q = s.Q +ℤ weight *ℤ adjustment;
  D = s.D +ℤ weight *ℤ outstanding;
}

-- a sum and a term that 64 bits hold together; an amount is a payment, an adjustment or an outstanding, whose limits are the same
pub record Summable (sum weight amount : ℤ) : Type 0 where
  pub sum_size : nat_abs sum ≤ greatest_sum
  pub weight_size : nat_abs weight ≤ nat_abs greatest_weight
  pub amount_size : nat_abs amount ≤ nat_abs greatest_amount

pub record RowAddable (s : meaning.Sums) (weight payment adjustment outstanding : ℤ) : Type 0 where
  pub payments : Summable s.P weight payment
  pub adjustments : Summable s.Q weight adjustment
  pub exposure : Summable s.D weight outstanding
