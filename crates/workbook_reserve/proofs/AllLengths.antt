-- Question 3 of a workbook, in the two parts in which the code asks it, and what questions 1 to 4 leave.
use mathlib.Core.Path.{◌≡◌, refl, sym, ap, ◌∙◌}
use mathlib.Core.Bool.{Bool, true, false, ◌&&◌}
use Prim.Native.Nat.{ℕ, ◌+◌, ◌≤◌}
use native.Mathlib.Omega.{arith}
use lib.Dec.{eqb}
use lib.IntN.{pos}
use lib.ListN.{length, take, replicate}
use lib.Seq.{length-take-le}
use Rattle.method.specs.Triangle.{amounts_length, weights_length, openings_length, future_length}
use Rattle.method.specs.Verdicts.{Verdict, accepted, nowhere, ask, ◌then◌}
use Rattle.method.specs.Questions.{question_1, question_2, question_3, question_4}
use Rattle.method.proofs.FirstRefusal.{ask_both, then_goes_on, then_accepted, then_assoc}
use Rattle.method.proofs.QuestionFacts.{YearsInRange, years_accepted, CutInRange, cut_accepted, lengths_accepted}
use Rattle.verdicts.proofs.Counts.{few_cells}
use Rattle.workbook.specs.Workbook.{Workbook, converted, pairs_length}
use Rattle.workbook.specs.Questions.{n, Y, workbook_lengths_right}
use Rattle.workbook.specs.Demand1.{WorkbookLengthsRight}
use Rattle.workbook.proofs.CellTests.{says_workbook_lengths}
use Rattle.std.proofs.Common.{None}
use Rattle.list_lengths.specs.declared.ListLengths.{ListLengths}
use Rattle.list_lengths.specs.Lengths.{list_lengths_right, questions_1_to_3}
use Rattle.workbook_reserve.specs.declared.lengths.OtherLengths.{OtherLengths}
use Rattle.workbook_reserve.specs.Workbooks.{other_lengths_right, questions_1_to_4}

module _ (b : Workbook) where
  -- the lengths of the lists that document 01's filling call reads too, and of the others
  abbrev pub lengths_read : ListLengths
  lengths_read = record {
    payments = length b.payments.numbers;
    adjustments = length b.adjustments.numbers;
    weights = length b.weights;
    openings = length b.openings;
    answers = None;
  }

  abbrev pub lengths_besides : ℕ → ℕ → OtherLengths
  lengths_besides future_room pairs_room = record {
    payment_kinds = length b.payments.kinds;
    adjustment_kinds = length b.adjustments.kinds;
    future = future_room;
    pairs = pairs_room;
  }

  module _ (f p : ℕ) where
    in_parts : (list_lengths_right (n b) (Y b) lengths_read && other_lengths_right (n b) (lengths_besides f p)) ≡ workbook_lengths_right b f p
    unfolding list_lengths_right workbook_lengths_right
    in_parts = regrouped
        (eqb (length b.payments.numbers) (amounts_length (n b)) && eqb (length b.adjustments.numbers) (amounts_length (n b))
        && eqb (length b.weights) (weights_length (n b)) && eqb (length b.openings) (openings_length (Y b)))
        (eqb (length b.payments.kinds) (amounts_length (n b))) (eqb (length b.adjustments.kinds) (amounts_length (n b)))
        (eqb f (future_length (n b))) (eqb p (pairs_length (n b)))
      where
        regrouped : (u v w x y : Bool) → ((u && true) && (v && w && x && y)) ≡ (u && v && w && x && y)
        regrouped true v w x y = refl
        regrouped false v w x y = refl

    third : (question_3 (list_lengths_right (n b) (Y b) lengths_read) then question_3 (other_lengths_right (n b) (lengths_besides f p)))
        ≡ question_3 (workbook_lengths_right b f p)
    unfolding question_3
    third = ask_both _ _ 3 nowhere ∙ ap (λ (x : Bool). ask x 3 nowhere) in_parts

    pub questions_in_parts : (questions_1_to_3 b.years b.cut lengths_read then question_3 (other_lengths_right (n b) (lengths_besides f p)) then question_4 (converted b))
        ≡ questions_1_to_4 b f p
    questions_in_parts =
        then_assoc _ _ _
        ∙ ap (λ (v : Verdict). question_1 b.years then v)
        (then_assoc _ _ _
        ∙ ap (λ (v : Verdict). question_2 b.years b.cut then v) (sym (then_assoc _ _ _) ∙ ap (λ (v : Verdict). v then question_4 (converted b)) third))

    -- where the two parts of question 3 accept
    pub measured : questions_1_to_3 b.years b.cut lengths_read ≡ accepted → question_3 (other_lengths_right (n b) (lengths_besides f p)) ≡ accepted
        → WorkbookLengthsRight b f p
    measured e g =
        (says_workbook_lengths b f p).sound
        (lengths_accepted _ (sym third ∙ then_goes_on _ (then_accepted _ _ (then_accepted _ _ e).1).1 ∙ g))

    -- ---- Where questions 1 to 4 accept

    module _ (e : questions_1_to_4 b f p ≡ accepted) where
      pub years_right : YearsInRange b.years
      years_right = years_accepted b.years (then_accepted _ _ e).0

      pub cut_right : CutInRange b.cut (n b)
      cut_right = cut_accepted b.years b.cut years_right (then_accepted _ _ (then_accepted _ _ e).1).0

      pub lengths_right : WorkbookLengthsRight b f p
      lengths_right = (says_workbook_lengths b f p).sound (lengths_accepted _ (then_accepted _ _ (then_accepted _ _ (then_accepted _ _ e).1).1).0)

      pub weights_right : question_4 (converted b) ≡ accepted
      weights_right = (then_accepted _ _ (then_accepted _ _ (then_accepted _ _ e).1).1).1

      -- there is room for every amount
      pub amounts_have_room : length b.payments.numbers ≤ 528
      amounts_have_room = omega (arith, lengths_right.payments, few_cells (n b) (n b + 1) years_right.most (omega (arith, years_right.most)))

-- as much of an array as a list has numbers
pub part_long : {count : ℕ} → count ≤ 528 → length (take count (replicate 528 (pos 0))) ≡ count
part_long {count} h = length-take-le count (replicate 528 (pos 0)) (omega (arith, h))
