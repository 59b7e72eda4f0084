-- Demand 2: the figures of both answer lists are the method's, place by place, and each share in them is rounded half up.
-- The ratios that it names too are the sums of `sums` in Outstandings; they are promised where a triangle is read.
use Rattle.std.specs.Prelude.{◌≡◌, List, ℕ, ℤ, pos, ◌+ℤ◌, ◌*ℤ◌, length}
use Rattle.integers.specs.HalfUp.{GreatestNotAbove}
use Rattle.method.specs.Verdicts.{accepted}
use Rattle.method.specs.Triangle.{Triangle, n, future_length, reserves_length}
use Rattle.method.specs.Outstandings.{sums}
use Rattle.method.specs.RunOff.{Method, O, movement, paid_reserve, incurred_reserve, closing, method}
use Rattle.method.specs.Answers.{answer}
use Rattle.method.specs.AnswerPlaces.{Projected, AccidentYear, cell_figure, year_figure}

-- What stands in the two lists, for any method.
pub record FiguresInPlace (m : Method) (future reserves : List ℤ) : Type 0 where
  -- the lists are whole
  pub future_whole : length future ≡ future_length m.years
  pub reserves_whole : length reserves ≡ reserves_length m.years
  -- the figures of every unseen cell (i, k + 1)
  pub payment : (i k : ℕ) → Projected m.years i k → cell_figure m.years future 0 i k ≡ (movement m i k).payment
  pub adjustment : (i k : ℕ) → Projected m.years i k → cell_figure m.years future 1 i k ≡ (movement m i k).adjustment
  pub outstanding : (i k : ℕ) → Projected m.years i k → cell_figure m.years future 2 i k ≡ (movement m i k).outstanding
  -- those of every accident year
  pub paid : (i : ℕ) → AccidentYear m.years i → year_figure reserves 0 i ≡ paid_reserve m i
  pub incurred : (i : ℕ) → AccidentYear m.years i → year_figure reserves 1 i ≡ incurred_reserve m i
  pub closing_outstanding : (i : ℕ) → AccidentYear m.years i → year_figure reserves 2 i ≡ closing m i

-- x is R × part / D rounded half up: the greatest whole number not above the exact share plus one half, which is (2 R part + D) / (2 D).
abbrev pub RoundedHalfUp : ℤ → ℤ → ℤ → ℤ → Type 0
RoundedHalfUp r part d x = GreatestNotAbove (pos 2 *ℤ (r *ℤ part) +ℤ d) (pos 2 *ℤ d) x

pub record Demand2 (t : Triangle) (future reserves : List ℤ) : Type 0 where
  pub figures : FiguresInPlace (method t) future reserves
  pub payment_half_up : (i k : ℕ) → Projected (n t) i k → RoundedHalfUp (O (method t) i k) (sums t k).P (sums t k).D (movement (method t) i k).payment
  pub adjustment_half_up : (i k : ℕ) → Projected (n t) i k → RoundedHalfUp (O (method t) i k) (sums t k).Q (sums t k).D (movement (method t) i k).adjustment

-- Over every accepted triangle. Proved as `demand_2`.
abbrev pub Demand2OfEveryAcceptedTriangle : Type 0
Demand2OfEveryAcceptedTriangle =
    (t : Triangle) (future_room reserves_room : ℕ) → (answer t future_room reserves_room).verdict ≡ accepted
    → Demand2 t (answer t future_room reserves_room).future (answer t future_room reserves_room).reserves
