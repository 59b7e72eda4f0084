-- Only an accepted call has the number 0: every row of the tables of questions has a number above it.
use mathlib.Core.Path.{◌≡◌, refl}
use mathlib.Core.Logic.{inl, inr}
use mathlib.Core.List.{List, [], ◌∷◌, ◌++◌}
use Prim.Native.Nat.{ℕ, suc, ◌≤◌}
use native.Mathlib.Omega.{arith}
use lib.IntN.{ℤ}
use Rattle.method.specs.Verdicts.{Place, Verdict, accepted, refused, number}
use Rattle.method.specs.Triangle.{Triangle}
use Rattle.method.specs.Answers.{CellAnswer}
use Rattle.method.specs.QuestionTable.{Question, FirstNoOf, DecidedBy}
use Rattle.method.specs.Demand1.{triangle_questions, InputLengthsRight, LengthsRight, Demand1, unseen_question, cell_questions, Demand1OfCell, row_questions, Demand1OfRow}

abbrev pub AllNumbered : List Question → Type 0
AllNumbered [] = Unit {0}
AllNumbered (q ∷ later) = ((i k : ℕ) → 1 ≤ q.number_at i k) × AllNumbered later

first_no_numbered : (qs : List Question) → AllNumbered qs → (number : ℕ) (p : Place) → FirstNoOf qs number p → 1 ≤ number
first_no_numbered [] h number p x = absurd x
first_no_numbered (q ∷ qs) h number p (inl x) = omega (arith, x.number_is, h.0 x.i x.k)
first_no_numbered (q ∷ qs) h number p (inr x) = first_no_numbered qs h.1 number p x.1

pub number_0_is_accepted : (qs : List Question) → AllNumbered qs → (v : Verdict) → DecidedBy qs v → number v ≡ 0 → v ≡ accepted
unfolding number
number_0_is_accepted qs h accepted d e = refl
number_0_is_accepted qs h (refused question p) d e =
    let above : 1 ≤ question = first_no_numbered qs h question p ((d.refused_exactly question p).0 refl) in
    absurd (omega arith)

-- questions 1 to 9, and what is asked after them
triangle_numbered : (t : Triangle) (Lengths : Type 0) (later : List Question) → AllNumbered later → AllNumbered (triangle_questions t Lengths ++ later)
triangle_numbered t Lengths later h =
    let above : (m : ℕ) (i k : ℕ) → 1 ≤ suc m = λ m i k. omega arith in
    (above 0, (above 1, (above 2, (above 3, (above 4, (above 4, (above 5, (above 6, (above 7, (above 8, h))))))))))

pub number_0_of_call : {t : Triangle} {f r : ℕ} {v : Verdict} {future reserves : List ℤ} → Demand1 t f r v future reserves → number v ≡ 0 → v ≡ accepted
number_0_of_call {t} {f} {r} {v} d = number_0_is_accepted _ (triangle_numbered t (LengthsRight t f r) [] tt) v d.decided

pub number_0_of_cell : {t : Triangle} {i k : ℤ} {c : CellAnswer} → Demand1OfCell t i k c → number c.verdict ≡ 0 → c.verdict ≡ accepted
number_0_of_cell {t} {i} {k} {c} d =
    number_0_is_accepted (cell_questions t i k) (triangle_numbered t (InputLengthsRight t) (unseen_question t.years i k ∷ []) ((λ i k. omega arith), tt)) c.verdict d.decided

pub number_0_of_row : (years : ℤ) (payment_list adjustment_list : List ℤ) (i : ℤ) {v : Verdict}
    → Demand1OfRow years payment_list adjustment_list i v → number v ≡ 0 → v ≡ accepted
number_0_of_row years payment_list adjustment_list i {v} d =
    number_0_is_accepted (row_questions years payment_list adjustment_list i) ((λ i k. omega arith), ((λ i k. omega arith), ((λ i k. omega arith), tt))) v d
