-- Document 01, "Proved examples": E1 to E12 as one table, each row a whole call and its whole answer, and allowances worked on two of them.
-- Figures that document 01 does not print are worked by tools/examples.py, with exact fractions and without these definitions.
-- The statements are proved in proofs/Examples.antt by computing them.
use Rattle.std.specs.Prelude.{◌≡◌, List, [], ◌∷◌, map, ℕ, ℤ, pos, neg_ℤ, ◌-ℤ◌, ◌*ℤ◌, nat_abs, length, replicate, set}
use Rattle.integers.specs.Fraction.{Fraction, size, ◌over◌, ◌≈◌}
use Rattle.method.specs.Triangle.{Triangle, weights_length, future_length, reserves_length}
use Rattle.method.specs.RunOff.{A, unrounded_movement, allowance, paid_allowance, incurred_allowance, method}
use Rattle.method.specs.Verdicts.{number, place}
use Rattle.method.specs.Answers.{Answer, answer}

-- ---- How a row is written

-- what a call of the two answer lists answers, number and place in figures
pub record Outcome : Type 0 where
  pub number : ℕ
  pub accident_year : ℤ
  pub development_year : ℤ
  pub future : List ℤ
  pub reserves : List ℤ

pub record Example : Type 0 where
  pub triangle : Triangle
  pub future_room : ℕ
  pub reserves_room : ℕ
  pub wanted : Outcome

abbrev pub minus : ℕ → ℤ
minus x = neg_ℤ (pos x)

-- n, payments, adjustments, weights, Y and openings
abbrev pub triangle : ℤ → List ℤ → List ℤ → List ℤ → ℤ → List ℤ → Triangle
triangle n s t w y r = record { years = n; cut = y; payments = s; adjustments = t; weights = w; openings = r }

-- the same with weights 1 and nothing missing
abbrev pub complete : ℕ → List ℤ → List ℤ → Triangle
complete n s t = triangle (pos n) s t (replicate (weights_length n) (pos 1)) (pos 1) []

-- accepted, with the future list and the reserve list
infix 5 ◌gives◌and◌
abbrev pub ◌gives◌and◌ : Triangle → List ℤ → List ℤ → Example
t gives future and reserves = record {
  triangle = t;
  future_room = length future;
  reserves_room = length reserves;
  wanted = record { number = 0; accident_year = pos 0; development_year = pos 0; future = future; reserves = reserves };
}

-- a refusal: the number, and the accident and the development year of the place
pub record Refusal : Type 0 where
  pub number : ℕ
  pub accident_year : ℕ
  pub development_year : ℕ

abbrev pub refused_by : ℕ → ℕ → ℕ → Refusal
refused_by number i k = record { number = number; accident_year = i; development_year = k }

-- refused, with answer lists of the given lengths
abbrev pub with_lengths : ℕ → ℕ → Triangle → Refusal → Example
with_lengths future reserves t refusal = record {
  triangle = t;
  future_room = future;
  reserves_room = reserves;
  wanted = record {
    number = refusal.number;
    accident_year = pos refusal.accident_year;
    development_year = pos refusal.development_year;
    future = replicate future (pos 0);
    reserves = replicate reserves (pos 0);
  };
}

-- refused, with answer lists of the right lengths
infix 5 ◌is◌
abbrev pub ◌is◌ : Triangle → Refusal → Example
t is refusal = with_lengths (future_length (nat_abs t.years)) (reserves_length (nat_abs t.years)) t refusal

-- Every row of a table holds.
abbrev pub Hold : List Example → Type 0
Hold table = map outcome_of table ≡ map (λ (e : Example). e.wanted) table
  where
    outcome : Answer → Outcome
    outcome a = record {
      number = number a.verdict;
      accident_year = (place a.verdict).accident_year;
      development_year = (place a.verdict).development_year;
      future = a.future;
      reserves = a.reserves;
    }

    outcome_of : Example → Outcome
    outcome_of e = outcome (answer e.triangle e.future_room e.reserves_room)

-- ---- E1 to E12

abbrev pub payments_1 : List ℤ
payments_1 = pos 100 ∷ pos 60 ∷ pos 50 ∷ []

abbrev pub adjustments_1 : List ℤ
adjustments_1 = pos 200 ∷ minus 40 ∷ pos 130 ∷ []

-- Document 01 prints year 2 whole.
abbrev pub E1 : Example
E1 =
    complete 2 payments_1 adjustments_1
    gives pos 48_000_000 ∷ minus 32_000_000 ∷ pos 0 ∷ []
    and pos 0 ∷ pos 0 ∷ pos 0 ∷ pos 48_000_000 ∷ pos 48_000_000 ∷ pos 0 ∷ []

-- Document 01 prints the future list of E2 and of E3.
abbrev pub E2 : Example
E2 =
    complete 2 (pos 0 ∷ pos 129 ∷ pos 0 ∷ []) (pos 128 ∷ pos 1 ∷ pos 1 ∷ [])
    gives pos 1_007_813 ∷ pos 7_813 ∷ pos 0 ∷ []
    and pos 0 ∷ pos 0 ∷ pos 0 ∷ pos 1_007_813 ∷ pos 1_007_813 ∷ pos 0 ∷ []

abbrev pub E3 : Example
E3 =
    complete 2 (pos 0 ∷ pos 127 ∷ pos 0 ∷ []) (pos 128 ∷ minus 1 ∷ pos 1 ∷ [])
    gives pos 992_188 ∷ minus 7_812 ∷ pos 0 ∷ []
    and pos 0 ∷ pos 0 ∷ pos 0 ∷ pos 992_188 ∷ pos 992_188 ∷ pos 0 ∷ []

abbrev pub payments_4 : List ℤ
payments_4 = pos 100 ∷ pos 60 ∷ pos 40 ∷ pos 80 ∷ pos 90 ∷ pos 50 ∷ []

abbrev pub adjustments_4 : List ℤ
adjustments_4 = pos 300 ∷ minus 40 ∷ minus 60 ∷ pos 380 ∷ pos 30 ∷ pos 250 ∷ []

-- Document 01 prints the reserves and year 3 of the future list.
abbrev pub E4 : Example
E4 =
    complete 3 payments_4 adjustments_4
    gives pos 96_000_000 ∷ minus 144_000_000 ∷ pos 0
    ∷ pos 60_000_000 ∷ minus 4_000_000 ∷ pos 136_000_000 ∷ pos 54_400_000 ∷ minus 81_600_000 ∷ pos 0 ∷ []
    and pos 0 ∷ pos 0 ∷ pos 0
    ∷ pos 96_000_000 ∷ pos 96_000_000 ∷ pos 0
    ∷ pos 114_400_000 ∷ pos 114_400_000 ∷ pos 0 ∷ []

-- E4 with T(1, 3) = −50. Document 01 prints year 2 of the reserves.
abbrev pub E5 : Example
E5 =
    complete 3 payments_4 (set adjustments_4 2 (minus 50))
    gives pos 96_000_000 ∷ minus 120_000_000 ∷ pos 24_000_000
    ∷ pos 60_000_000 ∷ minus 4_000_000 ∷ pos 136_000_000 ∷ pos 54_400_000 ∷ minus 68_000_000 ∷ pos 13_600_000 ∷ []
    and pos 0 ∷ pos 10_000_000 ∷ pos 10_000_000
    ∷ pos 96_000_000 ∷ pos 120_000_000 ∷ pos 24_000_000
    ∷ pos 114_400_000 ∷ pos 128_000_000 ∷ pos 13_600_000 ∷ []

abbrev pub future_6 : List ℤ
future_6 =
    pos 96_000_000 ∷ minus 144_000_000 ∷ pos 0
    ∷ pos 60_000_000 ∷ pos 20_000_000 ∷ pos 160_000_000 ∷ pos 64_000_000 ∷ minus 96_000_000 ∷ pos 0 ∷ []

abbrev pub reserves_6 : List ℤ
reserves_6 =
    pos 0 ∷ pos 0 ∷ pos 0
    ∷ pos 96_000_000 ∷ pos 96_000_000 ∷ pos 0
    ∷ pos 124_000_000 ∷ pos 124_000_000 ∷ pos 0 ∷ []

-- E4 with w(1, 1) = 0. Document 01 prints both reserves of year 3.
abbrev pub E6 : Example
E6 = triangle (pos 3) payments_4 adjustments_4 (pos 0 ∷ pos 1 ∷ pos 1 ∷ []) (pos 1) [] gives future_6 and reserves_6

-- cell (1, 1) missing
abbrev pub payments_7 : List ℤ
payments_7 = set payments_4 0 (pos 0)

abbrev pub adjustments_7 : List ℤ
adjustments_7 = set adjustments_4 0 (pos 0)

-- E6 with Y = 2 and opening 200. Document 01: the future list of E6.
abbrev pub E7 : Example
E7 = triangle (pos 3) payments_7 adjustments_7 (pos 0 ∷ pos 1 ∷ pos 1 ∷ []) (pos 2) (pos 200 ∷ []) gives future_6 and reserves_6

-- E4 with w(1, 1) = w(2, 1) = 0
abbrev pub E8 : Example
E8 = triangle (pos 3) payments_4 adjustments_4 (pos 0 ∷ pos 1 ∷ pos 0 ∷ []) (pos 1) [] is refused_by 8 0 1

-- E1 with T(1, 1) = 99
abbrev pub E9 : Example
E9 = complete 2 payments_1 (set adjustments_1 0 (pos 99)) is refused_by 6 1 1

-- Document 01 prints the closing of year 2.
abbrev pub E10 : Example
E10 =
    complete 2 (pos 0 ∷ pos 0 ∷ pos 0 ∷ []) (pos 1 ∷ pos 999_999_999 ∷ pos 10 ∷ [])
    gives pos 0 ∷ pos 9_999_999_990_000_000 ∷ pos 10_000_000_000_000_000 ∷ []
    and pos 0 ∷ pos 1_000_000_000_000_000 ∷ pos 1_000_000_000_000_000
    ∷ pos 0 ∷ pos 10_000_000_000_000_000 ∷ pos 10_000_000_000_000_000 ∷ []

-- E10 with T(2, 1) = 11
abbrev pub E11 : Example
E11 = complete 2 (pos 0 ∷ pos 0 ∷ pos 0 ∷ []) (pos 1 ∷ pos 999_999_999 ∷ pos 11 ∷ []) is refused_by 9 2 2

-- E7 with w(1, 1) = 1
abbrev pub E12 : Example
E12 = triangle (pos 3) payments_7 adjustments_7 (pos 1 ∷ pos 1 ∷ pos 1 ∷ []) (pos 2) (pos 200 ∷ []) is refused_by 7 1 1

abbrev pub E1_to_E12 : List Example
E1_to_E12 = E1 ∷ E2 ∷ E3 ∷ E4 ∷ E5 ∷ E6 ∷ E7 ∷ E8 ∷ E9 ∷ E10 ∷ E11 ∷ E12 ∷ []

-- ---- Allowances that are used up

-- x is exactly the allowance a away from f
abbrev pub exactly_away : ℤ → Fraction → Fraction → Type 0
exactly_away x f a = size (x *ℤ f.denominator -ℤ f.numerator) *ℤ a.denominator ≡ a.numerator *ℤ f.denominator

-- The payment and the adjustment of E2 are both one half away from the unrounded method's, so no smaller allowance would do.
abbrev pub E2UsesItsAllowances : Type 0
E2UsesItsAllowances =
    exactly_away (pos 1_007_813) (unrounded_movement (method E2.triangle) 2 1).payment (allowance (method E2.triangle) 2 1).payment
    × exactly_away (pos 7_813) (unrounded_movement (method E2.triangle) 2 1).adjustment (allowance (method E2.triangle) 2 1).adjustment

-- The allowances of accident year 3 of E5, whose second projected year begins with an allowance of 1:
-- 0.5 + 0.9 for the paid reserve, 0.5 + 1 for the incurred reserve, and 0.1 + 1 for the closing.
abbrev pub E5Allowances : Type 0
E5Allowances =
    (paid_allowance (method E5.triangle) 3 ≈ pos 14 over pos 10)
    × (incurred_allowance (method E5.triangle) 3 ≈ pos 15 over pos 10)
    × (A (method E5.triangle) 3 3 ≈ pos 11 over pos 10)
