-- What the tests of a cell's kind byte and float say, and of the lists' lengths.
use mathlib.Core.Path.{◌≡◌, refl, sym, ap, subst}
use mathlib.Core.Logic.{◌↔◌}
use mathlib.Core.Bool.{Bool, true, false, beq, cond}
use Prim.Native.Nat.{ℕ, ◌+◌, ◌≤◌}
use native.Mathlib.Decide.{dec_le, map_dec}
use native.Mathlib.Omega.{arith}
use borrow.Author.Tests.{eq-eqb, ne_eqb}
use lib.Dec.{eqb}
use lib.Ieee.{Float}
use Rattle.floats.specs.WholeNumbers.{WholeNumber, the, none, whole_number, is_whole}
use Rattle.method.specs.Triangle.{missing}
use Rattle.method.proofs.Tests.{Says, differ, says_leb, says_eqb, says_and, says_map}
use Rattle.workbook.specs.Cells.{blank, number, workbook_cell, is_blank, whole_or_blank}
use Rattle.workbook.specs.Workbook.{Workbook}
use Rattle.workbook.specs.Questions.{Y, workbook_lengths_right}
use Rattle.workbook.specs.Demand1.{Whole, WorkbookLengthsRight}

-- ---- Blank or a number, by the kind byte

pub blank_by_kind : (kind : ℕ) (x : Float) → is_blank (workbook_cell kind x) ≡ eqb kind 0
blank_by_kind kind x = go (eqb kind 0)
  where
    go : (b : Bool) → is_blank (cond b blank (number x)) ≡ b
    go true = refl
    go false = refl

is_0_or_not : (kind : ℕ) → Dec (kind ≡ 0)
is_0_or_not kind = map_dec (λ h. omega arith) (λ e. omega (arith, e)) (dec_le kind 0)

pub number_or_none : (kind : ℕ) → Dec (¬ (kind ≡ 0))
number_or_none kind = go (is_0_or_not kind)
  where
    go : Dec (kind ≡ 0) → Dec (¬ (kind ≡ 0))
    go (yes e) = no (λ h. h e)
    go (no h) = yes h

-- ---- Question 12

says_whole_number : (x : Float) → Says (is_whole (whole_number x)) (Whole x)
says_whole_number x = record { sound = λ e. go (whole_number x) refl e; complete = λ w. ap is_whole w.is }
  where
    go : (w : WholeNumber) → whole_number x ≡ w → is_whole w ≡ true → Whole x
    go (the z) is e = record { value = z; is = is }
    go none is e = absurd (differ e refl)

pub says_whole_or_blank : (kind : ℕ) (x : Float) → Says (whole_or_blank (workbook_cell kind x)) (¬ (kind ≡ 0) → Whole x)
says_whole_or_blank kind x = go (is_0_or_not kind)
  where
    go : Dec (kind ≡ 0) → Says (whole_or_blank (workbook_cell kind x)) (¬ (kind ≡ 0) → Whole x)
    go (yes e) = record { sound = λ t h. absurd (h e); complete = λ f. ap (λ (b : Bool). whole_or_blank (cond b blank (number x))) (eq-eqb kind 0 e) }
    go (no h) =
        subst (λ (b : Bool). Says (whole_or_blank (cond b blank (number x))) (¬ (kind ≡ 0) → Whole x)) (sym (ne_eqb kind 0 h))
        (says_map (λ w h. w) (λ f. f h) (says_whole_number x))

-- ---- Question 13

says_same : {a b : Bool} {P Q : Type 0} → Says a P → Says b Q → Says (beq a b) (P ↔ Q)
says_same {a} {b} s r = go a b s r
  where
    go : (a b : Bool) {P Q : Type 0} → Says a P → Says b Q → Says (beq a b) (P ↔ Q)
    go true true s r = record { sound = λ e. ((λ p. r.sound refl), (λ q. s.sound refl)); complete = λ h. refl }
    go true false s r = record { sound = λ e. absurd (differ refl (sym e)); complete = λ h. absurd (differ (r.complete (h.0 (s.sound refl))) refl) }
    go false true s r = record { sound = λ e. absurd (differ refl (sym e)); complete = λ h. absurd (differ (s.complete (h.1 (r.sound refl))) refl) }
    go false false s r = record { sound = λ e. ((λ p. absurd (differ (s.complete p) refl)), (λ q. absurd (differ (r.complete q) refl))); complete = λ h. refl }

pub says_blank_where_missing : (Y i k kind : ℕ) (x : Float) → Says (beq (is_blank (workbook_cell kind x)) (missing Y i k)) ((kind ≡ 0) ↔ (i + k ≤ Y))
says_blank_where_missing Y i k kind x =
    subst (λ (b : Bool). Says (beq b (missing Y i k)) ((kind ≡ 0) ↔ (i + k ≤ Y))) (sym (blank_by_kind kind x))
    (says_same (says_eqb kind 0) (says_leb (i + k) Y))

-- ---- Question 3

pub says_workbook_lengths : (b : Workbook) (f p : ℕ) → Says (workbook_lengths_right b f p) (WorkbookLengthsRight b f p)
unfolding workbook_lengths_right
says_workbook_lengths b f p =
    says_map
    (λ h. record {
      payments = h.0.0.0.0.0.0.0;
      adjustments = h.0.0.0.0.0.0.1;
      weights = h.0.0.0.0.0.1;
      openings = h.0.0.0.0.1;
      payment_kinds = h.0.0.0.1;
      adjustment_kinds = h.0.0.1;
      future = h.0.1;
      pairs = h.1;
    })
    (λ r. (((((((r.payments, r.adjustments), r.weights), r.openings), r.payment_kinds), r.adjustment_kinds), r.future), r.pairs))
    (says_and (says_and (says_and (says_and (says_and (says_and (says_and (says_eqb _ _) (says_eqb _ _)) (says_eqb _ _)) (says_eqb _ _)) (says_eqb _ _)) (says_eqb _ _)) (says_eqb _ _)) (says_eqb _ _))
