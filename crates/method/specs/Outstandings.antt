-- Document 01, "Observed outstandings and ratios".
use Rattle.std.specs.Prelude.{ℕ, zero, suc, ◌-◌, ℤ, ◌+ℤ◌, ◌-ℤ◌, ◌*ℤ◌}
use Rattle.integers.specs.Fraction.{Fraction, ◌over◌}
use Rattle.method.specs.Counting.{sum_to}
use Rattle.method.specs.Triangle.{Triangle, n, S, T, w, entry}

-- The three sums of a development year; D is the exposure of its ratios.
pub record Sums : Type 0 where
  pub P : ℤ
  pub Q : ℤ
  pub D : ℤ

-- The ratios stay fractions and are never rounded.
abbrev pub payment_ratio : Sums → Fraction
payment_ratio s = s.P over s.D

abbrev pub adjustment_ratio : Sums → Fraction
adjustment_ratio s = s.Q over s.D

abbrev pub outstanding_factor : Sums → Fraction
outstanding_factor s = (s.D -ℤ s.P +ℤ s.Q) over s.D

module _ (t : Triangle) where
  -- The observed outstanding. A row from Y on has no opening and starts from 0, which is what lies beyond the list of openings.
  -- An older row starts from its opening, which stands at year Y − i: its cells up to there are missing and hold 0.
  -- Before year Y − i the outstanding is not known, and the opening stands here in its place. No accepted triangle uses it there:
  -- question 6 asks from year Y − i on, and question 7 has put the weight to 0 before D is asked. Law: `R_is_opening` in proofs/Readings.antt.
  unfoldable pub R : ℕ → ℕ → ℤ
  R i zero = entry t.openings i
  R i (suc k) = R i k -ℤ S t i (suc k) +ℤ T t i (suc k)

  -- the sums of development year k, over accident years 1 to n − k
  unfoldable pub sums : ℕ → Sums
  sums k = record {
    P = sum_to (n t - k) (λ i. w t i k *ℤ S t i (suc k));
    Q = sum_to (n t - k) (λ i. w t i k *ℤ T t i (suc k));
    D = sum_to (n t - k) (λ i. w t i k *ℤ R i k);
  }
