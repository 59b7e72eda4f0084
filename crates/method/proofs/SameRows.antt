-- Two methods that begin an accident year alike and move it alike have the same row of it: question 9, figures, reserves and closing.
use mathlib.Core.Path.{◌≡◌, sym, ap, ap₂, ◌∙◌, subst}
use mathlib.Core.List.{List, [], ◌∷◌, ◌++◌}
use Prim.Native.Nat.{ℕ, zero, suc, ◌+◌, ◌-◌, ◌≤◌, ◌<◌}
use native.Mathlib.Omega.{arith}
use lib.IntN.{ℤ, ◌+ℤ◌, ◌*ℤ◌}
use Rattle.method.specs.Limits.{one_unit}
use Rattle.method.specs.Counting.{up_to}
use Rattle.method.specs.ProjectedYear.{Movement, figures}
use Rattle.method.specs.RunOff.{Method, O, movement, last_observed, year_before, future_row, future, paid_reserve, incurred_reserve, closing, reserves_row, reserves}
use Rattle.method.specs.AnswerPlaces.{Projected}
use Rattle.method.specs.Verdicts.{accepted, at, ◌then◌, ask, first_to}
use Rattle.method.specs.Questions.{figures_in_range, question_9_of_year, question_9}
use Rattle.method.proofs.Counting.{up_to_same}
use Rattle.method.proofs.Sums.{sum_same}
use Rattle.method.proofs.FirstRefusal.{first_same}
use Rattle.method.proofs.RunOff.{O_observed, O_projected}

-- accident year i of two methods with as many years
pub record SameRow (p q : Method) (i : ℕ) : Type 0 where
  pub years : p.years ≡ q.years
  pub observed : p.observed i (last_observed p i) ≡ q.observed i (last_observed p i)
  pub year : (k : ℕ) → Projected p.years i k → (r : ℤ) → p.rounded i k r ≡ q.rounded i k r

module _ {p q : Method} {i : ℕ} (first : 1 ≤ i) (last : i ≤ p.years) (s : SameRow p q i) where
  -- after j projected years
  same_outstanding : (j : ℕ) → j ≤ i - 1 → O p i (last_observed p i + j) ≡ O q i (last_observed p i + j)
  unfolding movement
  same_outstanding zero h =
      let e : last_observed p i ≡ last_observed p i + 0 = omega arith in
      subst (λ (x : ℕ). O p i x ≡ O q i x) e
      (O_observed p i (last_observed p i) (omega arith) ∙ ap (λ (x : ℤ). x *ℤ one_unit) s.observed ∙ sym (O_observed q i (last_observed p i) (omega (arith, s.years))))
  same_outstanding (suc j) h =
      let k : ℕ = last_observed p i + j in
      let e : suc k ≡ last_observed p i + suc j = omega arith in
      subst (λ (x : ℕ). O p i x ≡ O q i x) e
      (O_projected p i k (omega arith)
      ∙ ap (λ (m : Movement). m.outstanding) (s.year k (record { row = last; after = omega arith; year = omega arith }) (O p i k) ∙ ap (q.rounded i k) (same_outstanding j (omega arith)))
      ∙ sym (O_projected q i k (omega (arith, s.years))))

  pub same_movement : (k : ℕ) → Projected p.years i k → movement p i k ≡ movement q i k
  unfolding movement
  same_movement k c =
      let j : ℕ = k - last_observed p i in
      let e : last_observed p i + j ≡ k = omega (arith, c.after) in
      s.year k c (O p i k) ∙ ap (q.rounded i k) (subst (λ (x : ℕ). O p i x ≡ O q i x) e (same_outstanding j (omega (arith, c.year))))

  -- whatever is read off the year after the j-th projected one
  same_year : {A : Type 0} (f : ℕ → Movement → A) (j : ℕ) → j < i - 1
      → f (year_before p i (suc j)) (movement p i (year_before p i (suc j))) ≡ f (year_before q i (suc j)) (movement q i (year_before q i (suc j)))
  same_year f j h =
      ap (f (year_before p i (suc j))) (same_movement (year_before p i (suc j)) (record { row = last; after = omega arith; year = omega arith }))
      ∙ ap (λ (n : ℕ). f (n - i + suc j) (movement q i (n - i + suc j))) s.years

  pub same_question_9_of_year : question_9_of_year p i ≡ question_9_of_year q i
  unfolding question_9_of_year
  same_question_9_of_year = first_same (i - 1) _ _ (same_year (λ k m. ask (figures_in_range m) 9 (at i (suc k))))

  pub same_future_row : future_row p i ≡ future_row q i
  unfolding future_row
  same_future_row = up_to_same ◌++◌ [] (i - 1) _ _ (same_year (λ k m. figures m))

  pub same_reserves_row : reserves_row p i ≡ reserves_row q i
  unfolding reserves_row paid_reserve incurred_reserve closing
  same_reserves_row = three
      (sum_same (i - 1) _ _ (same_year (λ k m. m.payment)))
      (ap₂ (λ (x y : ℤ). x *ℤ one_unit +ℤ y) (s.observed ∙ ap (λ (n : ℕ). q.observed i (n + 1 - i)) s.years) (sum_same (i - 1) _ _ (same_year (λ k m. m.adjustment))))
      (subst (λ (x : ℕ). O p i x ≡ O q i x) e (same_outstanding (i - 1) (omega arith)) ∙ ap (O q i) s.years)
    where
      e : last_observed p i + (i - 1) ≡ p.years
      e = omega arith

      three : {a b c x y z : ℤ} → a ≡ x → b ≡ y → c ≡ z → ◌≡◌ {A = List ℤ} (a ∷ b ∷ c ∷ []) (x ∷ y ∷ z ∷ [])
      three p q r = cc

-- ---- All accident years

module _ {p q : Method} (years : p.years ≡ q.years) (same : (i : ℕ) → 1 ≤ i → i ≤ p.years → SameRow p q i) where
  -- what is made of the rows one after another
  same_rows : {A : Type 0} (join : A → A → A) (none : A) (f g : ℕ → A) → ((i : ℕ) → 1 ≤ i → i ≤ p.years → f i ≡ g i)
      → up_to join none p.years f ≡ up_to join none q.years g
  same_rows join none f g h = up_to_same join none p.years f g (λ r l. h (suc r) (omega arith) (omega arith)) ∙ ap (λ (n : ℕ). up_to join none n g) years

  pub same_question_9 : question_9 p ≡ question_9 q
  unfolding question_9 first_to
  same_question_9 = same_rows ◌then◌ accepted _ _ (λ i first last. same_question_9_of_year first last (same i first last))

  pub same_future : future p ≡ future q
  unfolding future
  same_future = same_rows ◌++◌ [] _ _ (λ i first last. same_future_row first last (same i first last))

  pub same_reserves : reserves p ≡ reserves q
  unfolding reserves
  same_reserves = same_rows ◌++◌ [] _ _ (λ i first last. same_reserves_row first last (same i first last))
