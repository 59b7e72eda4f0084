-- Where every cell of a list can be converted, questions 11 and 12 accept it.
use mathlib.Core.Path.{◌≡◌, sym, ap, ◌∙◌}
use mathlib.Core.Bool.{true}
use mathlib.Core.List.{List}
use Prim.Native.Nat.{ℕ, zero, suc, ◌+◌, ◌≤◌, ◌<◌}
use native.Mathlib.Decide.{dec_lt}
use native.Mathlib.Omega.{arith}
use lib.Dec.{leb}
use lib.Ieee.{Float, nan}
use lib.ListN.{length, get_or}
use Rattle.method.specs.Triangle.{cells_before}
use Rattle.method.specs.Verdicts.{accepted, ◌then◌}
use Rattle.method.proofs.Tests.{and-true}
use Rattle.method.proofs.FirstRefusal.{went_on, each_cell_passes}
use Rattle.method.proofs.Positions.{cell_at, cell_inside}
use Rattle.workbook.specs.Workbook.{CellList, kind_at, number_at}
use Rattle.workbook.specs.Questions.{kinds_known, numbers_whole}
use Rattle.workbook_cells.specs.Conversion.{convertible, all_convertible}
use Rattle.workbook_questions.specs.CellQuestions.{CellsRight, list_convertible, both_convertible}

each_convertible : (m : ℕ) (kinds : List ℕ) (numbers : List Float) → all_convertible m kinds numbers ≡ true
    → (j : ℕ) → j < m → convertible (get_or kinds j 0) (get_or numbers j nan) ≡ true
unfolding all_convertible
each_convertible zero kinds numbers e j h = absurd (omega arith)
each_convertible (suc m) kinds numbers e j h =
    let both = and-true (all_convertible m kinds numbers) (convertible (get_or kinds m 0) (get_or numbers m nan)) e in
    go (each_convertible m kinds numbers both.0 j) both.1 (dec_lt j m)
  where
    go : (j < m → convertible (get_or kinds j 0) (get_or numbers j nan) ≡ true) → convertible (get_or kinds m 0) (get_or numbers m nan) ≡ true → Dec (j < m)
        → convertible (get_or kinds j 0) (get_or numbers j nan) ≡ true
    go before here (yes l) = before l
    go before here (no l) = let last : j ≡ m = omega arith in ap (λ (x : ℕ). convertible (get_or kinds x 0) (get_or numbers x nan)) last ∙ here

module _ (n : ℕ) (c : CellList) (right : CellsRight n c) (e : list_convertible c ≡ true) where
  cell_convertible : (i k : ℕ) → 1 ≤ i → 1 ≤ k → i + k ≤ n + 1 → convertible (kind_at n c i k) (number_at n c i k) ≡ true
  cell_convertible zero k p q h = absurd (omega arith)
  cell_convertible (suc r) zero p q h = absurd (omega arith)
  cell_convertible (suc r) (suc j) p q h =
      (λ d. convertible (cell_at 0 n c.kinds r j d) (cell_at nan n c.numbers r j d))
      ∙ each_convertible (length c.numbers) c.kinds c.numbers e (cells_before n r + j)
      (omega (arith, cell_inside n r j (omega arith), right.numbers))

  kinds_accepted : kinds_known n c ≡ accepted
  unfolding kinds_known
  kinds_accepted = each_cell_passes n 11 _ (λ i k p q h. (and-true (leb (kind_at n c i k) 1) _ (cell_convertible i k p q h)).0)

  numbers_accepted : numbers_whole n c ≡ accepted
  unfolding numbers_whole
  numbers_accepted = each_cell_passes n 12 _ (λ i k p q h. (and-true (leb (kind_at n c i k) 1) _ (cell_convertible i k p q h)).1)

-- of both lists, each with its own n
pub convertible_accepted : (n m : ℕ) (p a : CellList) → CellsRight n p → CellsRight m a → both_convertible p a ≡ true
    → accepted ≡ ((kinds_known n p then kinds_known m a) then numbers_whole n p then numbers_whole m a)
convertible_accepted n m p a paid adjusted e =
    let (f, g) = and-true (list_convertible p) (list_convertible a) e in
    went_on (sym (went_on (kinds_accepted n p paid f) (sym (kinds_accepted m a adjusted g))))
    (went_on (numbers_accepted n p paid f) (sym (numbers_accepted m a adjusted g)))
