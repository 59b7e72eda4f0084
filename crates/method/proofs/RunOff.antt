-- Laws of any rule of a year: how an account of a row goes on, and how the reserves and the closing meet.
use mathlib.Core.Path.{◌≡◌, refl, sym, ap, ◌∙◌}
use Prim.Native.Nat.{ℕ, zero, suc, ◌+◌, ◌-◌, ◌≤◌, ◌<◌}
use native.Mathlib.Nat.{add-zero}
use native.Mathlib.Omega.{arith}
use borrow.Author.Tests.{le-leb, lt-leb}
use lib.IntN.{ℤ, pos, ◌+ℤ◌, ◌-ℤ◌, ◌*ℤ◌}
use Rattle.integers.specs.Fraction.{◌over◌}
use Rattle.integers.proofs.RingSolver.{con, ◌:+◌, ◌:-◌, ◌:=◌, ring}
use Rattle.method.specs.Limits.{one_unit}
use Rattle.method.specs.Counting.{up_to}
use Rattle.method.specs.ProjectedYear.{Year}
use Rattle.method.specs.RunOff.{Method, account, O, U, A, movement, unrounded_movement, allowance, last_observed, first_outstanding, year_before, payments_to, adjustments_to, paid_reserve, incurred_reserve, closing}

-- ---- An account of a row

module _ (m : Method) {X : Type 0} (first : ℤ → X) (next : ℕ → ℕ → X → Year X) where
  account_observed : (i k : ℕ) → i + k ≤ m.years + 1 → account m first next i k ≡ first (m.observed i k *ℤ one_unit)
  unfolding account
  account_observed i zero h = refl
  account_observed i (suc k) h = rw (le-leb (i + suc k) (m.years + 1) h, account)

  account_projected : (i k : ℕ) → m.years < i + k → account m first next i (suc k) ≡ (next i k (account m first next i k)).outstanding
  unfolding account
  account_projected i k h = rw (lt-leb (i + suc k) (m.years + 1) (omega arith), account)

module _ (m : Method) where
  pub O_observed : (i k : ℕ) → i + k ≤ m.years + 1 → O m i k ≡ m.observed i k *ℤ one_unit
  unfolding O
  O_observed = account_observed m (λ r. r) m.rounded

  pub O_projected : (i k : ℕ) → m.years < i + k → O m i (suc k) ≡ (movement m i k).outstanding
  unfolding O movement
  O_projected = account_projected m (λ r. r) m.rounded

  pub U_observed : (i k : ℕ) → i + k ≤ m.years + 1 → U m i k ≡ (m.observed i k *ℤ one_unit) over pos 1
  unfolding U
  U_observed = account_observed m (λ r. r over pos 1) m.unrounded

  pub U_projected : (i k : ℕ) → m.years < i + k → U m i (suc k) ≡ (unrounded_movement m i k).outstanding
  unfolding U unrounded_movement
  U_projected = account_projected m (λ r. r over pos 1) m.unrounded

  pub A_observed : (i k : ℕ) → i + k ≤ m.years + 1 → A m i k ≡ pos 0 over pos 1
  unfolding A
  A_observed = account_observed m (λ r. pos 0 over pos 1) m.allowed

  pub A_projected : (i k : ℕ) → m.years < i + k → A m i (suc k) ≡ (allowance m i k).outstanding
  unfolding A allowance
  A_projected = account_projected m (λ r. pos 0 over pos 1) m.allowed

-- ---- Incurred less paid reserve is the closing outstanding

-- every year moves the outstanding by its payment and its adjustment
abbrev pub Moves : Method → Type 0
Moves m = (i k : ℕ) (r : ℤ) → (m.rounded i k r).outstanding ≡ r -ℤ (m.rounded i k r).payment +ℤ (m.rounded i k r).adjustment

module _ (m : Method) (moves : Moves m) (i : ℕ) (h : i ≤ m.years) where
  movement_outstanding : (k : ℕ) → (movement m i k).outstanding ≡ O m i k -ℤ (movement m i k).payment +ℤ (movement m i k).adjustment
  unfolding movement
  movement_outstanding k = moves i k (O m i k)

  outstanding_by_movements : (j : ℕ) → j ≤ i - 1 → O m i (last_observed m i + j) ≡ first_outstanding m i -ℤ payments_to m i j +ℤ adjustments_to m i j
  unfolding up_to
  outstanding_by_movements zero l =
      ap (λ (x : ℕ). O m i x) (add-zero (last_observed m i)) ∙ O_observed m i (last_observed m i) (omega arith)
      ∙ ring 1 (λ x. x := x :- con (pos 0) :+ con (pos 0)) tt (first_outstanding m i)
  outstanding_by_movements (suc j) l =
      let k : ℕ = year_before m i (suc j) in
      let s : last_observed m i + suc j ≡ suc k = omega arith in
      let u : k ≡ last_observed m i + j = omega arith in
      ap (λ (x : ℕ). O m i x) s
      ∙ O_projected m i k (omega arith)
      ∙ movement_outstanding k
      ∙ ap (λ (x : ℤ). x -ℤ (movement m i k).payment +ℤ (movement m i k).adjustment) (ap (λ (x : ℕ). O m i x) u ∙ outstanding_by_movements j (omega arith))
      ∙ ring 5 (λ x a b p q. x :- a :+ b :- p :+ q := x :- (a :+ p) :+ (b :+ q)) tt
      (first_outstanding m i) (payments_to m i j) (adjustments_to m i j) (movement m i k).payment (movement m i k).adjustment

pub incurred_less_paid_is_closing : (m : Method) → Moves m → (i : ℕ) → 1 ≤ i → i ≤ m.years → incurred_reserve m i -ℤ paid_reserve m i ≡ closing m i
unfolding incurred_reserve paid_reserve closing
incurred_less_paid_is_closing m moves i p h =
    let e : last_observed m i + (i - 1) ≡ m.years = omega arith in
    ring 3 (λ x p a. x :+ a :- p := x :- p :+ a) tt (first_outstanding m i) (payments_to m i (i - 1)) (adjustments_to m i (i - 1))
    ∙ sym (outstanding_by_movements m moves i h (i - 1) (omega arith)) ∙ ap (λ (x : ℕ). O m i x) e
