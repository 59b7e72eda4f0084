-- What each question leaves when it accepts, as facts on the triangle, and all of it for an accepted triangle.
use mathlib.Core.Path.{◌≡◌, refl, subst}
use mathlib.Core.Bool.{Bool, true}
use Prim.Native.Nat.{ℕ, ◌+◌, ◌-◌, ◌≤◌, ◌<◌}
use native.Mathlib.Omega.{arith}
use lib.Dec.{leb→le}
use lib.IntN.{ℤ, pos, negsuc, ◌+ℤ◌, ◌-ℤ◌, nat_abs}
use lib.ListN.{length}
use lib.Signed.{lt_z, ◌≤ℤ◌, ◌<ℤ◌}
use Rattle.integers.specs.Fraction.{size}
use Rattle.integers.proofs.RingSolver.{con, ◌:+◌, ◌:-◌}
use Rattle.integers.proofs.LinearFacts.{integers, parts}
use Rattle.integers.proofs.Order.{nat_abs-≤}
use Rattle.method.specs.Limits.{fewest_years, most_years, greatest_weight, greatest_amount, greatest_outstanding, greatest_figure}
use Rattle.method.specs.Triangle.{Triangle, n, Y, S, T, w, amounts_length, weights_length, openings_length, future_length, reserves_length}
use Rattle.method.specs.Outstandings.{R, sums}
use Rattle.method.specs.ProjectedYear.{Movement}
use Rattle.method.specs.RunOff.{Method, movement, year_before, method}
use Rattle.method.specs.Verdicts.{accepted, at, nowhere, ask, each_cell}
use Rattle.method.specs.Tests.{from_to, weight_in_range, amount_right, outstanding_in_range, weight_allowed}
use Rattle.method.specs.Tests.{years_in_range, cut_in_range}
use Rattle.method.specs.Questions.{input_lengths_right, lengths_right, figures_in_range, question_1, question_2, question_3, question_4, question_5, question_6, question_7, question_8, question_9_of_year, question_9, list_questions, input_questions, observed_questions, questions, cell_unseen}
use Rattle.method.specs.QuestionTable.{FromTo}
use Rattle.method.specs.Demand1.{InputLengthsRight, LengthsRight}
use Rattle.method.specs.AnswerPlaces.{Projected}
use Rattle.method.proofs.Tests.{from_to_true, Says, says-≤, says-<, says_from_to, says_eqb, says_map, says_and, says_weight, says_amount, says_outstanding, says_weight_allowed, says_figures}
use Rattle.method.proofs.FirstRefusal.{ask_accepted, then_accepted, first_accepted, each_cell_passed}

-- ---- What questions 1 to 3 leave

pub record YearsInRange (years : ℤ) : Type 0 where
  pub counted : years ≡ pos (nat_abs years)
  pub fewest : nat_abs fewest_years ≤ nat_abs years
  pub most : nat_abs years ≤ nat_abs most_years

years_in_range_true : (years : ℤ) → years_in_range years ≡ true → YearsInRange years
unfolding years_in_range
years_in_range_true years e = go years (from_to_true fewest_years most_years years e)
  where
    go : (years : ℤ) → (fewest_years ≤ℤ years) × (years ≤ℤ most_years) → YearsInRange years
    go (pos m) h = record { counted = refl; fewest = leb→le (nat_abs fewest_years) m h.0.le; most = leb→le m (nat_abs most_years) h.1.le }
    go (negsuc m) h = absurd h.0.le

pub years_accepted : (years : ℤ) → question_1 years ≡ accepted → YearsInRange years
unfolding question_1
years_accepted years e = years_in_range_true years (ask_accepted (years_in_range years) 1 nowhere e)

pub record CutInRange (cut : ℤ) (years : ℕ) : Type 0 where
  pub counted : cut ≡ pos (nat_abs cut)
  pub least : 1 ≤ nat_abs cut
  pub most : nat_abs cut < years

pub cut_accepted : (years cut : ℤ) → YearsInRange years → question_2 years cut ≡ accepted → CutInRange cut (nat_abs years)
unfolding question_2 cut_in_range
cut_accepted years cut y e =
    go cut (nat_abs years) (from_to_true (pos 1) (pos (nat_abs years) -ℤ pos 1) cut
    (subst (λ (x : ℤ). from_to (pos 1) (x -ℤ pos 1) cut ≡ true) y.counted (ask_accepted (cut_in_range years cut) 2 nowhere e)))
  where
    go : (cut : ℤ) (m : ℕ) → (pos 1 ≤ℤ cut) × (cut ≤ℤ (pos m -ℤ pos 1)) → CutInRange cut m
    go (pos c) m h = record {
      counted = refl;
      least = leb→le 1 c h.0.le;
      most = omega (arith, integers, h.1, parts (con (pos m) :- con (pos 1)));
    }
    go (negsuc c) m h = absurd h.0.le

pub lengths_accepted : (right : Bool) → question_3 right ≡ accepted → right ≡ true
unfolding question_3
lengths_accepted right e = ask_accepted right 3 nowhere e

pub says_input_lengths : (t : Triangle) → Says (input_lengths_right t) (InputLengthsRight t)
unfolding input_lengths_right
says_input_lengths t =
    says_map
    (λ h. record { payments = h.0.0.0; adjustments = h.0.0.1; weights = h.0.1; openings = h.1 })
    (λ l. (((l.payments, l.adjustments), l.weights), l.openings))
    (says_and (says_and (says_and
    (says_eqb (length t.payments) (amounts_length (n t)))
    (says_eqb (length t.adjustments) (amounts_length (n t))))
    (says_eqb (length t.weights) (weights_length (n t))))
    (says_eqb (length t.openings) (openings_length (Y t))))

pub says_lengths : (t : Triangle) (f r : ℕ) → Says (lengths_right t f r) (LengthsRight t f r)
unfolding lengths_right
says_lengths t f r =
    says_map
    (λ h. record { inputs = h.0.0; future = h.0.1; reserves = h.1 })
    (λ l. ((l.inputs, l.future), l.reserves))
    (says_and (says_and (says_input_lengths t) (says_eqb f (future_length (n t)))) (says_eqb r (reserves_length (n t))))

-- ---- What questions 4 to 9 leave, cell by cell

-- the amount x of cell (i, k): within the limit, and 0 where missing
pub record AmountRight (cut i k : ℕ) (x : ℤ) : Type 0 where
  pub in_range : nat_abs x ≤ nat_abs greatest_amount
  pub zero_up_to_cut : i + k ≤ cut → x ≡ pos 0

pub amount_right_true : (cut i k : ℕ) (x : ℤ) → amount_right cut i k x ≡ true → AmountRight cut i k x
amount_right_true cut i k x e =
    let (within, zero) = (says_amount cut i k x).sound e in
    record { in_range = (nat_abs-≤ x (nat_abs greatest_amount)).1 within; zero_up_to_cut = zero }

-- the figures of a projected year within the limit
pub record FiguresInRange (m : Movement) : Type 0 where
  pub payment : size m.payment ≤ℤ greatest_figure
  pub adjustment : size m.adjustment ≤ℤ greatest_figure
  pub outstanding : size m.outstanding ≤ℤ greatest_figure

pub figures_in_range_true : (m : Movement) → figures_in_range m ≡ true → FiguresInRange m
figures_in_range_true m e = let (p, a, o) = (says_figures m).sound e in record { payment = p; adjustment = a; outstanding = o }

module _ (t : Triangle) where
  pub weights_in_range : question_4 t ≡ accepted → (i k : ℕ) → 1 ≤ i → 1 ≤ k → i + k ≤ n t
      → (pos 0 ≤ℤ w t i k) × (w t i k ≤ℤ greatest_weight)
  unfolding question_4
  weights_in_range e i k p q h = (says_weight (w t i k)).sound (each_cell_passed (n t - 1) 4 (λ i k. weight_in_range (w t i k)) e i k p q (omega arith))

  amounts_right : (amount : ℕ → ℕ → ℤ) → each_cell (n t) 5 (λ i k. amount_right (Y t) i k (amount i k)) ≡ accepted
      → (i k : ℕ) → 1 ≤ i → 1 ≤ k → i + k ≤ n t + 1 → AmountRight (Y t) i k (amount i k)
  amounts_right amount e i k p q h =
      amount_right_true (Y t) i k (amount i k) (each_cell_passed (n t) 5 (λ i k. amount_right (Y t) i k (amount i k)) e i k p q h)

  pub payments_right : question_5 t ≡ accepted → (i k : ℕ) → 1 ≤ i → 1 ≤ k → i + k ≤ n t + 1 → AmountRight (Y t) i k (S t i k)
  unfolding question_5
  payments_right e = amounts_right (S t) (then_accepted _ _ e).0

  pub adjustments_right : question_5 t ≡ accepted → (i k : ℕ) → 1 ≤ i → 1 ≤ k → i + k ≤ n t + 1 → AmountRight (Y t) i k (T t i k)
  unfolding question_5
  adjustments_right e = amounts_right (T t) (then_accepted _ _ e).1

  pub outstandings_in_range : question_6 t ≡ accepted → (i k : ℕ) → 1 ≤ i → 1 ≤ k → i + k ≤ n t + 1 → Y t ≤ i + k
      → (pos 0 ≤ℤ R t i k) × (R t i k ≤ℤ greatest_outstanding)
  unfolding question_6
  outstandings_in_range e i k p q h =
      (says_outstanding (Y t) i k (R t i k)).sound (each_cell_passed (n t) 6 (λ i k. outstanding_in_range (Y t) i k (R t i k)) e i k p q h)

  pub weights_allowed : question_7 t ≡ accepted → (i k : ℕ) → 1 ≤ i → 1 ≤ k → i + k ≤ n t → i + k ≤ Y t → w t i k ≡ pos 0
  unfolding question_7
  weights_allowed e i k p q h =
      (says_weight_allowed (Y t) i k (w t i k)).sound (each_cell_passed (n t - 1) 7 (λ i k. weight_allowed (Y t) i k (w t i k)) e i k p q (omega arith))

  pub exposures_positive : question_8 t ≡ accepted → (k : ℕ) → 1 ≤ k → k < n t → pos 0 <ℤ (sums t k).D
  unfolding question_8
  exposures_positive e k p q =
      let asked : ask (lt_z (pos 0) (sums t k).D) 8 (at 0 k) ≡ accepted =
      first_accepted (n t - 1) (λ k. ask (lt_z (pos 0) (sums t k).D) 8 (at 0 k)) e k p (omega arith) in
      (says-< (pos 0) (sums t k).D).sound (ask_accepted (lt_z (pos 0) (sums t k).D) 8 (at 0 k) asked)

-- question 9 of one accident year, and of all
module _ (m : Method) where
  pub year_figures_allowed : (i : ℕ) → question_9_of_year m i ≡ accepted → (k : ℕ) → Projected m.years i k → FiguresInRange (movement m i k)
  unfolding question_9_of_year
  year_figures_allowed i e k p =
      let j : ℕ = i + k - m.years in
      let s : year_before m i j ≡ k = omega (arith, p.row, p.after) in
      subst (λ (x : ℕ). FiguresInRange (movement m i x)) s
      (figures_in_range_true _ (ask_accepted _ 9 _ (first_accepted (i - 1) _ e j (omega (arith, p.after)) (omega (arith, p.after, p.year)))))

  pub figures_allowed : question_9 m ≡ accepted → (i k : ℕ) → Projected m.years i k → FiguresInRange (movement m i k)
  unfolding question_9
  figures_allowed e i k p = year_figures_allowed i (first_accepted m.years (question_9_of_year m) e i (omega (arith, p.after, p.year)) p.row) k p

-- ---- All questions

-- questions 1 to 7, which speak of what was observed
pub record Observed (t : Triangle) : Type 0 where
  pub years : YearsInRange t.years
  pub cut : CutInRange t.cut (n t)
  pub lengths : InputLengthsRight t
  pub weight : (i k : ℕ) → 1 ≤ i → 1 ≤ k → i + k ≤ n t → (pos 0 ≤ℤ w t i k) × (w t i k ≤ℤ greatest_weight)
  pub payment : (i k : ℕ) → 1 ≤ i → 1 ≤ k → i + k ≤ n t + 1 → AmountRight (Y t) i k (S t i k)
  pub adjustment : (i k : ℕ) → 1 ≤ i → 1 ≤ k → i + k ≤ n t + 1 → AmountRight (Y t) i k (T t i k)
  pub outstanding : (i k : ℕ) → 1 ≤ i → 1 ≤ k → i + k ≤ n t + 1 → Y t ≤ i + k → (pos 0 ≤ℤ R t i k) × (R t i k ≤ℤ greatest_outstanding)
  pub unweighted : (i k : ℕ) → 1 ≤ i → 1 ≤ k → i + k ≤ n t → i + k ≤ Y t → w t i k ≡ pos 0

pub record Accepted (t : Triangle) : Type 0 where
  pub observed : Observed t
  pub exposure : (k : ℕ) → 1 ≤ k → k < n t → pos 0 <ℤ (sums t k).D
  pub figures : (i k : ℕ) → Projected (n t) i k → FiguresInRange (movement (method t) i k)

-- question 3 was answered yes
pub question_3_said_yes : (t : Triangle) (right : Bool) → input_questions t right ≡ accepted → right ≡ true
unfolding input_questions
question_3_said_yes t right e =
    let (q₁, e₂) = then_accepted _ _ e in
    let (q₂, e₃) = then_accepted _ _ e₂ in
    lengths_accepted right (then_accepted _ _ e₃).0

-- where the lists have their lengths if the answer to question 3 says so
pub observed_triangle : (t : Triangle) (right : Bool) → (right ≡ true → InputLengthsRight t) → input_questions t right ≡ accepted → Observed t
unfolding input_questions list_questions
observed_triangle t right lengths e =
    let (q₁, e₂) = then_accepted _ _ e in
    let (q₂, e₃) = then_accepted _ _ e₂ in
    let (q₃, e₄) = then_accepted _ _ e₃ in
    let (q₄, e₅) = then_accepted _ _ e₄ in
    let (q₅, e₆) = then_accepted _ _ e₅ in
    let (q₆, q₇) = then_accepted _ _ e₆ in
    let years : YearsInRange t.years = years_accepted t.years q₁ in
    record {
      years = years;
      cut = cut_accepted t.years t.cut years q₂;
      lengths = lengths (question_3_said_yes t right e);
      weight = weights_in_range t q₄;
      payment = payments_right t q₅;
      adjustment = adjustments_right t q₅;
      outstanding = outstandings_in_range t q₆;
      unweighted = weights_allowed t q₇;
    }

pub accepted_triangle : (t : Triangle) (right : Bool) → (right ≡ true → InputLengthsRight t) → questions t right ≡ accepted → Accepted t
unfolding questions observed_questions
accepted_triangle t right lengths e =
    let (before, q₉) = then_accepted _ _ e in
    let (inputs, q₈) = then_accepted _ _ before in
    record {
      observed = observed_triangle t right lengths inputs;
      exposure = exposures_positive t q₈;
      figures = figures_allowed (method t) q₉;
    }

-- ---- Question 10 of a cell

pub record UnseenCell (n : ℕ) (i k : ℤ) : Type 0 where
  pub accident_year_counted : i ≡ pos (nat_abs i)
  pub development_year_counted : k ≡ pos (nat_abs k)
  pub first : 2 ≤ nat_abs i
  pub last : nat_abs i ≤ n
  pub unseen : n + 1 < nat_abs i + nat_abs k
  pub last_year : nat_abs k ≤ n

pub says_unseen : (years i k : ℤ) → Says (cell_unseen years i k) ((FromTo (pos 2) years i) × (k ≤ℤ years) × ((years +ℤ pos 1) <ℤ (i +ℤ k)))
unfolding cell_unseen
says_unseen years i k =
    says_map (λ h. (h.0.0, h.0.1, h.1)) (λ h. ((h.0, h.1), h.2))
    (says_and (says_and (says_from_to (pos 2) years i) (says-≤ k years)) (says-< (years +ℤ pos 1) (i +ℤ k)))

pub unseen_cell : (years i k : ℤ) → YearsInRange years → cell_unseen years i k ≡ true → UnseenCell (nat_abs years) i k
unseen_cell years i k y e =
    let (in_range, last, unseen) = (says_unseen years i k).sound e in
    go years i k y.counted in_range.0 in_range.1 last unseen
  where
    go : (years i k : ℤ) → years ≡ pos (nat_abs years) → pos 2 ≤ℤ i → i ≤ℤ years → k ≤ℤ years → (years +ℤ pos 1) <ℤ (i +ℤ k) → UnseenCell (nat_abs years) i k
    go (pos m) (pos a) (pos b) y p q r s = record {
      accident_year_counted = refl;
      development_year_counted = refl;
      first = omega (arith, integers);
      last = omega (arith, integers);
      unseen = omega (arith, integers);
      last_year = omega (arith, integers);
    }
    go (pos m) (pos a) (negsuc b) y p q r s = absurd (omega (arith, integers, parts (con (pos a) :+ con (negsuc b))))
    go (pos m) (negsuc a) k y p q r s = absurd p.le
    go (negsuc m) i k y p q r s = absurd (omega (arith, integers))
