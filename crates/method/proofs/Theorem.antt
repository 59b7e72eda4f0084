-- A projected year multiplies the unrounded outstanding by its factor, so outstandings, payments and adjustments are products of factors: (3.6) to (3.8).
-- A year of any rule keeps first outstanding + adjustments = payments + outstanding, and the last factor is 0 where R(1, n) is 0: (3.9).
use mathlib.Core.Path.{◌≡◌, refl, sym, ap, ◌∙◌, subst}
use Prim.Native.Nat.{ℕ, zero, suc, ◌+◌, ◌-◌, ◌≤◌, ◌<◌}
use native.Mathlib.Nat.{add-zero}
use native.Mathlib.Decide.{dec_le}
use native.Mathlib.Omega.{arith}
use lib.IntN.{pos, ◌*ℤ◌}
use lib.Signed.{◌<ℤ◌, lt_z_yes}
use Rattle.integers.specs.Fraction.{Fraction, ◌over◌, ◌⊕◌, ◌⊖◌, ◌⊗◌, ◌≈◌}
use Rattle.integers.proofs.RingSolver.{con, ◌:+◌, ◌:*◌, ◌:=◌}
use Rattle.integers.proofs.FractionSolver.{fractions}
use Rattle.integers.proofs.SameNumber.{IsNumber, ⊕-is-number, ⊖-is-number, ⊗-is-number, same, same-≡, turned, ◌and_so◌, ⊗-same, numerators_apart, share_by_factor_apart, zero_over, times_zero, plus_zero, balance_moved}
use Rattle.method.specs.Limits.{one_unit}
use Rattle.method.specs.Counting.{up_to, sum_to, fractions_to}
use Rattle.method.specs.Triangle.{Triangle, n, w}
use Rattle.method.specs.Outstandings.{R, sums}
use Rattle.method.specs.ProjectedYear.{unrounded_year}
use Rattle.method.specs.RunOff.{Method, U, unrounded_movement, last_observed, first_outstanding, year_before, unrounded_paid, unrounded_incurred, method}
use Rattle.method.specs.AnswerPlaces.{Projected, AccidentYear}
use Rattle.method.specs.Theorem.{product_from_to, sum_from_to, α, β, f, Unseen, projected_S, projected_T, last_R, Theorem3_2, ExposuresPositive, Theorem3_2WhereExposuresArePositive, Theorem3_2OfEveryAcceptedTriangle}
use Rattle.method.proofs.Counting.{up_to_none, up_to_more, up_to_same, up_to_keeps}
use Rattle.method.proofs.SumBounds.{factor_is}
use Rattle.method.proofs.RunOff.{U_observed, U_projected}
use Rattle.method.proofs.Projection.{last_factor_zero}
use Rattle.method.proofs.WholeAnswers.{triangle_of_accepted_answer}

-- ---- Any rule of a year whose unrounded outstanding moves by its payment and its adjustment

pub record MovesUnrounded (m : Method) : Type 0 where
  pub moves : (i k : ℕ) (u : Fraction) → (m.unrounded i k u).outstanding ≡ u ⊖ (m.unrounded i k u).payment ⊕ (m.unrounded i k u).adjustment
  -- from an outstanding that is a number, so are the payment and the adjustment
  pub payment : (i k : ℕ) → Projected m.years i k → (u : Fraction) → IsNumber u → IsNumber (m.unrounded i k u).payment
  pub adjustment : (i k : ℕ) → Projected m.years i k → (u : Fraction) → IsNumber u → IsNumber (m.unrounded i k u).adjustment

module _ (m : Method) (rule : MovesUnrounded m) (i : ℕ) (y : AccidentYear m.years i) where
  abbrev payment : ℕ → Fraction
  payment k = (unrounded_movement m i k).payment

  abbrev adjustment : ℕ → Fraction
  adjustment k = (unrounded_movement m i k).adjustment

  -- ---- Every figure is a number

  payment_is_number : (k : ℕ) → Projected m.years i k → IsNumber (U m i k) → IsNumber (payment k)
  unfolding unrounded_movement
  payment_is_number k p = rule.payment i k p (U m i k)

  adjustment_is_number : (k : ℕ) → Projected m.years i k → IsNumber (U m i k) → IsNumber (adjustment k)
  unfolding unrounded_movement
  adjustment_is_number k p = rule.adjustment i k p (U m i k)

  outstanding_moves : (k : ℕ) → m.years < i + k → U m i (suc k) ≡ U m i k ⊖ payment k ⊕ adjustment k
  unfolding unrounded_movement
  outstanding_moves k a = U_projected m i k a ∙ rule.moves i k (U m i k)

  pub outstanding_is_number : (k : ℕ) → k ≤ m.years → IsNumber (U m i k)
  outstanding_is_number zero l = subst (λ (u : Fraction). IsNumber u) (sym (U_observed m i zero (omega (arith, y.last)))) (lt_z_yes tt)
  outstanding_is_number (suc k) l = go (outstanding_is_number k (omega arith)) (dec_le (i + suc k) (m.years + 1))
    where
      go : IsNumber (U m i k) → Dec (i + suc k ≤ m.years + 1) → IsNumber (U m i (suc k))
      go before (yes h) = subst (λ (u : Fraction). IsNumber u) (sym (U_observed m i (suc k) h)) (lt_z_yes tt)
      go before (no h) =
          let p : Projected m.years i k = record { row = y.last; after = omega arith; year = l } in
          subst (λ (u : Fraction). IsNumber u) (sym (outstanding_moves k p.after))
          (⊕-is-number _ _ (⊖-is-number _ _ before (payment_is_number k p before)) (adjustment_is_number k p before))

  projected : (j : ℕ) → 1 ≤ j → j ≤ i - 1 → Projected m.years i (year_before m i j)
  projected j a b = record { row = y.last; after = omega (arith, y.last); year = omega (arith, y.last) }

  -- over the first j projected years
  abbrev total : (ℕ → Fraction) → ℕ → Fraction
  total figure j = fractions_to j (λ j. figure (year_before m i j))

  total_is_number : (figure : ℕ → Fraction) → ((k : ℕ) → Projected m.years i k → IsNumber (U m i k) → IsNumber (figure k))
      → (j : ℕ) → j ≤ i - 1 → IsNumber (total figure j)
  total_is_number figure each j l = up_to_keeps ◌⊕◌ (pos 0 over pos 1) IsNumber (lt_z_yes tt) ⊕-is-number j _
      (λ j a b. each (year_before m i j) (projected j a (omega arith)) (outstanding_is_number (year_before m i j) (omega (arith, y.last))))

  -- ---- The balance

  abbrev start : Fraction
  start = first_outstanding m i over pos 1

  balance_after : (j : ℕ) → j ≤ i - 1 → start ⊕ total adjustment j ≈ total payment j ⊕ U m i (last_observed m i + j)
  unfolding up_to
  balance_after zero l =
      let observed : start ≡ U m i (last_observed m i + 0) =
      sym (ap (U m i) (add-zero (last_observed m i)) ∙ U_observed m i (last_observed m i) (omega (arith, y.last))) in
      subst (λ (u : Fraction). start ⊕ pos 0 over pos 1 ≈ pos 0 over pos 1 ⊕ u) observed
      (fractions 1 (λ s. s :+ con (pos 0) := con (pos 0) :+ s) (tt, tt, tt) start (lt_z_yes tt, tt))
  balance_after (suc j) l =
      let k : ℕ = year_before m i (suc j) in
      let this : last_observed m i + j ≡ k = omega (arith, y.last) in
      let next : suc k ≡ last_observed m i + suc j = omega (arith, y.last) in
      let p : Projected m.years i k = projected (suc j) (omega arith) l in
      let u : IsNumber (U m i k) = outstanding_is_number k (omega (arith, y.last)) in
      let before = subst (λ (x : ℕ). start ⊕ total adjustment j ≈ total payment j ⊕ U m i x) this (balance_after j (omega arith)) in
      subst (λ (x : Fraction). start ⊕ total adjustment (suc j) ≈ total payment (suc j) ⊕ x)
      (sym (outstanding_moves k p.after) ∙ ap (U m i) next)
      (balance_moved start (total adjustment j) (total payment j) (U m i k) (payment k) (adjustment k)
      (lt_z_yes tt) (total_is_number adjustment adjustment_is_number j (omega arith)) (total_is_number payment payment_is_number j (omega arith)) u
      (payment_is_number k p u) (adjustment_is_number k p u) before)

  pub reserves_apart_by_last_outstanding : unrounded_incurred m i ≈ unrounded_paid m i ⊕ U m i m.years
  unfolding unrounded_incurred unrounded_paid
  reserves_apart_by_last_outstanding =
      let last : last_observed m i + (i - 1) ≡ m.years = omega (arith, y.first, y.last) in
      subst (λ (x : ℕ). start ⊕ total adjustment (i - 1) ≈ total payment (i - 1) ⊕ U m i x) last (balance_after (i - 1) (omega arith))

  pub reserves_same_where_nothing_is_left : U m i m.years ≈ pos 0 over pos 1 → unrounded_paid m i ≈ unrounded_incurred m i
  unfolding unrounded_paid
  reserves_same_where_nothing_is_left nothing =
      turned (reserves_apart_by_last_outstanding
      and_so plus_zero (unrounded_paid m i) (total_is_number payment payment_is_number (i - 1) (omega arith)) nothing)

-- ---- Products and sums from a first year to a last

product_of_none : (first last : ℕ) (g : ℕ → Fraction) → last < first → product_from_to first last g ≡ pos 1 over pos 1
product_of_none first last g l =
    let none : last + 1 - first ≡ 0 = omega arith in
    ap (λ (c : ℕ). up_to ◌⊗◌ (pos 1 over pos 1) c (λ j. g (first + j - 1))) none ∙ up_to_none ◌⊗◌ (pos 1 over pos 1) _

product_to_next_year : (first k : ℕ) (g : ℕ → Fraction) → 1 ≤ first → first ≤ k → product_from_to first (suc k - 1) g ≡ product_from_to first (k - 1) g ⊗ g k
product_to_next_year first k g a l =
    let one_more : suc k - 1 + 1 - first ≡ suc (k - 1 + 1 - first) = omega arith in
    let last : first + suc (k - 1 + 1 - first) - 1 ≡ k = omega arith in
    ap (λ (c : ℕ). up_to ◌⊗◌ (pos 1 over pos 1) c (λ j. g (first + j - 1))) one_more
    ∙ up_to_more ◌⊗◌ (pos 1 over pos 1) (k - 1 + 1 - first) _
    ∙ ap (λ (x : ℕ). product_from_to first (k - 1) g ⊗ g x) last

-- the j-th projected year is year n + 1 − i + j
sum_over_projected_years : (n i : ℕ) → AccidentYear n i → (g : ℕ → Fraction)
    → fractions_to (i - 1) (λ j. g (n - i + j)) ≡ sum_from_to (n + 2 - i) n (λ k. g (k - 1))
sum_over_projected_years n i y g =
    let count : i - 1 ≡ n + 1 - (n + 2 - i) = omega (arith, y.last) in
    up_to_same ◌⊕◌ (pos 0 over pos 1) (i - 1) _ (λ j. g (n + 2 - i + j - 1 - 1)) (λ j l. ap g (year_of j))
    ∙ ap (λ (c : ℕ). fractions_to c (λ j. g (n + 2 - i + j - 1 - 1))) count
  where
    year_of : (j : ℕ) → n - i + suc j ≡ n + 2 - i + suc j - 1 - 1
    year_of j = omega (arith, y.last)

module _ (t : Triangle) (i : ℕ) (y : AccidentYear (n t) i) where
  paid_reserve_is_sum : unrounded_paid (method t) i ≡ sum_from_to (n t + 2 - i) (n t) (projected_S t i)
  unfolding unrounded_paid
  paid_reserve_is_sum = sum_over_projected_years (n t) i y (λ k. (unrounded_movement (method t) i k).payment)

  incurred_reserve_is_sum : unrounded_incurred (method t) i ≡ last_R t i ⊕ sum_from_to (n t + 2 - i) (n t) (projected_T t i)
  unfolding unrounded_incurred
  incurred_reserve_is_sum = ap (λ (x : Fraction). last_R t i ⊕ x) (sum_over_projected_years (n t) i y (λ k. (unrounded_movement (method t) i k).adjustment))

-- ---- The rule of document 01

module _ (t : Triangle) (exposures : ExposuresPositive t) where
  exposed : (i k : ℕ) → Projected (n t) i k → pos 0 <ℤ (sums t k).D
  exposed i k p = exposures k (omega (arith, p.row, p.after)) p.year

  pub method_moves : MovesUnrounded (method t)
  unfolding unrounded_year
  method_moves = record {
    moves = λ i k u. refl;
    payment = λ i k p u h. ⊗-is-number u (α t k) h (exposed i k p);
    adjustment = λ i k p u h. ⊗-is-number u (β t k) h (exposed i k p);
  }

  -- ---- The factor

  factor_is_one_less_payment_plus_adjustment : (k : ℕ) → 1 ≤ k → k < n t → f t k ≈ pos 1 over pos 1 ⊖ α t k ⊕ β t k
  factor_is_one_less_payment_plus_adjustment k a b = numerators_apart (sums t k).P (sums t k).Q (sums t k).D (exposures k a b)

  factor_is_ratio_of_outstandings : (k : ℕ) → 1 ≤ k → k < n t
      → f t k ≈ sum_to (n t - k) (λ i. w t i k *ℤ R t i (k + 1)) over sum_to (n t - k) (λ i. w t i k *ℤ R t i k)
  unfolding sums
  factor_is_ratio_of_outstandings k a b =
      let next : suc k ≡ k + 1 = omega arith in
      same-≡ (exposures k a b)
      (ap (λ x. x over (sums t k).D) (factor_is t k ∙ ap (λ (x : ℕ). sum_to (n t - k) (λ i. w t i k *ℤ R t i x)) next))

  factor_of_last_year_is_zero : R t 1 (n t) ≡ pos 0 → (k : ℕ) → 1 ≤ k → suc k ≡ n t → f t k ≈ pos 0 over pos 1
  factor_of_last_year_is_zero z k a e =
      let exposure = exposures k a (omega arith) in
      same-≡ exposure (ap (λ x. x over (sums t k).D) (last_factor_zero t k e z)) and_so zero_over (sums t k).D exposure

  -- ---- An outstanding is a `product_from_to` of factors

  module _ (i : ℕ) (y : AccidentYear (n t) i) where
    abbrev u : ℕ → Fraction
    u = U (method t) i

    u_is_number : (k : ℕ) → k ≤ n t → IsNumber (u k)
    u_is_number = outstanding_is_number (method t) method_moves i y

    year_multiplies_by_factor : (k : ℕ) → Projected (n t) i k → u (suc k) ≈ u k ⊗ f t k
    unfolding unrounded_movement unrounded_year
    year_multiplies_by_factor k p =
        subst (λ (x : Fraction). x ≈ u k ⊗ f t k) (sym (U_projected (method t) i k p.after))
        (turned (share_by_factor_apart (u k) (sums t k).P (sums t k).Q (sums t k).D (u_is_number k (omega (arith, p.year))) (exposed i k p)))

    -- of the years before year k
    abbrev factors : ℕ → Fraction
    factors k = product_from_to (last_observed (method t) i) (k - 1) (f t)

    factors_are_number : (k : ℕ) → k ≤ n t → IsNumber (factors k)
    factors_are_number k l = up_to_keeps ◌⊗◌ (pos 1 over pos 1) IsNumber (lt_z_yes tt) ⊗-is-number _ _
        (λ j a b. exposures _ (omega (arith, y.last)) (omega (arith, y.last)))

    last_observed_is_product : (k : ℕ) → k ≡ last_observed (method t) i → u k ≈ last_R t i ⊗ factors k
    last_observed_is_product k e =
        let observed : last_R t i ≡ u k = sym (ap u e ∙ U_observed (method t) i (last_observed (method t) i) (omega (arith, y.last))) in
        let none : pos 1 over pos 1 ≡ factors k = sym (product_of_none _ (k - 1) (f t) (omega (arith, y.last))) in
        subst (λ (x : Fraction). x ≈ last_R t i ⊗ factors k) observed
        (subst (λ (x : Fraction). last_R t i ≈ last_R t i ⊗ x) none
        (fractions 1 (λ r. r := r :* con (pos 1)) (tt, tt, tt) (last_R t i) (lt_z_yes tt, tt)))

    next_is_product : (k : ℕ) → Projected (n t) i k → u k ≈ last_R t i ⊗ factors k → u (suc k) ≈ last_R t i ⊗ factors (suc k)
    next_is_product k p before =
        let one_more : factors k ⊗ f t k ≡ factors (suc k) =
        sym (product_to_next_year _ k (f t) (omega (arith, p.row)) (omega (arith, p.after))) in
        subst (λ (x : Fraction). u (suc k) ≈ last_R t i ⊗ x) one_more
        (year_multiplies_by_factor k p
        and_so ⊗-same before (same (exposed i k p))
        and_so fractions 3 (λ r p f. r :* p :* f := r :* (p :* f)) (tt, tt, tt) (last_R t i) (factors k) (f t k)
        (lt_z_yes tt, (factors_are_number k (omega (arith, p.year)), (exposed i k p, tt))))

    outstanding_is_product_of_factors : (k : ℕ) → n t < i + k → k ≤ n t → u k ≈ last_R t i ⊗ factors k
    outstanding_is_product_of_factors zero a b = absurd (omega (arith, y.last))
    outstanding_is_product_of_factors (suc k) a b = go (dec_le (i + k) (n t)) (outstanding_is_product_of_factors k)
      where
        go : Dec (i + k ≤ n t) → (n t < i + k → k ≤ n t → u k ≈ last_R t i ⊗ factors k) → u (suc k) ≈ last_R t i ⊗ factors (suc k)
        go (yes h) before = last_observed_is_product (suc k) (omega arith)
        go (no h) before = next_is_product k (record { row = y.last; after = omega arith; year = b }) (before (omega arith) (omega arith))

    -- a payment or an adjustment, by its ratio
    share_is_product_of_factors : (ratio : Fraction) → IsNumber ratio → (k : ℕ) → n t < i + k → k ≤ n t → u k ⊗ ratio ≈ ratio ⊗ last_R t i ⊗ factors k
    share_is_product_of_factors ratio h k a b =
        ⊗-same (outstanding_is_product_of_factors k a b) (same h)
        and_so fractions 3 (λ r p s. r :* p :* s := s :* r :* p) (tt, tt, tt) (last_R t i) (factors k) ratio (lt_z_yes tt, (factors_are_number k b, (h, tt)))

    -- ---- Nothing is left where R(1, n) is 0

    last_outstanding_is_zero : R t 1 (n t) ≡ pos 0 → u (n t) ≈ pos 0 over pos 1
    last_outstanding_is_zero z = go (dec_le i 1)
      where
        go : Dec (i ≤ 1) → u (n t) ≈ pos 0 over pos 1
        go (yes l) =
            let oldest : i ≡ 1 = omega (arith, y.first) in
            same-≡ (u_is_number (n t) (omega arith))
            (U_observed (method t) i (n t) (omega arith)
            ∙ ap (λ (x : ℕ). (R t x (n t) *ℤ one_unit) over pos 1) oldest ∙ ap (λ x. (x *ℤ one_unit) over pos 1) z)
        go (no l) =
            let k : ℕ = n t - 1 in
            let last : suc k ≡ n t = omega (arith, y.last) in
            subst (λ (x : ℕ). u x ≈ pos 0 over pos 1) last
            (year_multiplies_by_factor k (record { row = y.last; after = omega (arith, y.last); year = omega (arith, y.last) })
            and_so times_zero (u k) (u_is_number k (omega arith)) (factor_of_last_year_is_zero z k (omega (arith, y.last)) last))

    pub unrounded_reserves_same : R t 1 (n t) ≡ pos 0 → unrounded_paid (method t) i ≈ unrounded_incurred (method t) i
    unrounded_reserves_same z = reserves_same_where_nothing_is_left (method t) method_moves i y (last_outstanding_is_zero z)

-- ---- The theorem

module _ (t : Triangle) (exposures : ExposuresPositive t) where
  accident_year : (i k : ℕ) → Unseen t i k → AccidentYear (n t) i
  accident_year i k p = record { first = omega (arith, p.after, p.year); last = p.row }

  share_turned : (i k : ℕ) → Unseen t i k → (ratio : Fraction) → IsNumber ratio → U (method t) i (k - 1) ⊗ ratio ≈ ratio ⊗ U (method t) i (k - 1)
  share_turned i k p ratio h =
      let number = outstanding_is_number (method t) (method_moves t exposures) i (accident_year i k p) (k - 1) (omega (arith, p.year)) in
      fractions 2 (λ u r. u :* r := r :* u) (tt, tt, tt) (U (method t) i (k - 1)) ratio (number, (h, tt))

  share_of_unseen_cell : (i k : ℕ) → Unseen t i k → (ratio : Fraction) → IsNumber ratio
      → U (method t) i (k - 1) ⊗ ratio ≈ ratio ⊗ last_R t i ⊗ product_from_to (n t + 1 - i) (k - 2) (f t)
  share_of_unseen_cell i k p ratio h =
      let two_before : k - 1 - 1 ≡ k - 2 = omega arith in
      subst (λ (x : ℕ). U (method t) i (k - 1) ⊗ ratio ≈ ratio ⊗ last_R t i ⊗ product_from_to (n t + 1 - i) x (f t)) two_before
      (share_is_product_of_factors t exposures i (accident_year i k p) ratio h (k - 1) p.after (omega (arith, p.year)))

  in_all : Theorem3_2 t
  unfolding unrounded_movement unrounded_year
  in_all = record {
    factor = factor_is_one_less_payment_plus_adjustment t exposures;
    factor_of_outstandings = factor_is_ratio_of_outstandings t exposures;
    payment_of_outstanding = λ i k p. share_turned i k p (α t (k - 1)) (exposed t exposures i (k - 1) p);
    payment = λ i k p. share_of_unseen_cell i k p (α t (k - 1)) (exposed t exposures i (k - 1) p);
    adjustment_of_outstanding = λ i k p. share_turned i k p (β t (k - 1)) (exposed t exposures i (k - 1) p);
    adjustment = λ i k p. share_of_unseen_cell i k p (β t (k - 1)) (exposed t exposures i (k - 1) p);
    outstanding = λ i k p. outstanding_is_product_of_factors t exposures i (accident_year i k p) k (omega (arith, p.after)) (omega (arith, p.year));
    no_gap = λ z i y. rw (sym (paid_reserve_is_sum t i y), sym (incurred_reserve_is_sum t i y)) (unrounded_reserves_same t exposures i y z);
    paid_side = paid_reserve_is_sum t;
    incurred_side = incurred_reserve_is_sum t;
    gap = reserves_apart_by_last_outstanding (method t) (method_moves t exposures);
  }

pub theorem_3_2 : Theorem3_2WhereExposuresArePositive
theorem_3_2 t exposures = in_all t exposures

pub theorem_3_2_accepted : Theorem3_2OfEveryAcceptedTriangle
theorem_3_2_accepted t f r e = theorem_3_2 t (triangle_of_accepted_answer t f r e).exposure
