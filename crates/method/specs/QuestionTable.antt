-- A table of questions, whatever they ask: a row says where it is asked and what is wanted there, and the first no decides.
-- Nothing is computed here: a question is given by what it wants, and the order by what comes first.
use Rattle.std.specs.Prelude.{◌≡◌, ◌↔◌, ◌⊎◌, List, [], ◌∷◌, ℕ, ◌+◌, ◌≤◌, ◌<◌, ℤ, ◌≤ℤ◌}
use Rattle.method.specs.Verdicts.{Place, at, Verdict, accepted, refused}

-- ---- A question, and its first no

-- A row of a table of questions. It is put at places that two numbers count, in the order of the first and then of the second;
-- for most questions they are the accident year i and the development year k of a cell.
pub record Question : Type 1 where
  -- where it is asked
  pub asked_at : ℕ → ℕ → Type 0
  -- what is wanted there
  pub wants : ℕ → ℕ → Type 0
  -- the number and the place that a no there is answered with; in the base a row has one number, and most have the cell itself as place
  pub number_at : ℕ → ℕ → ℕ
  pub place_at : ℕ → ℕ → Place

-- yes wherever it is asked
abbrev pub Passed : Question → Type 0
Passed q = (i k : ℕ) → q.asked_at i k → q.wants i k

-- list order: row by row, and year by year in a row
abbrev pub Before : ℕ → ℕ → ℕ → ℕ → Type 0
Before a b i k = (a < i) ⊎ ((a ≡ i) × (b < k))

-- a no, answered with this number and this place, and yes wherever it is asked before
pub record FirstNo (q : Question) (number : ℕ) (p : Place) : Type 0 where
  pub i : ℕ
  pub k : ℕ
  pub asked : q.asked_at i k
  pub no : ¬ (q.wants i k)
  pub yes_before : (a b : ℕ) → q.asked_at a b → Before a b i k → q.wants a b
  pub number_is : number ≡ q.number_at i k
  pub place_is : p ≡ q.place_at i k

-- ---- Questions one after another

abbrev pub AllPassed : List Question → Type 0
AllPassed [] = Unit {0}
AllPassed (q ∷ later) = Passed q × AllPassed later

-- the first no decides: it is the first question's, or this question passed and it is the first no of the later ones
abbrev pub FirstNoOf : List Question → ℕ → Place → Type 0
FirstNoOf [] number p = ⊥
FirstNoOf (q ∷ later) number p = FirstNo q number p ⊎ (Passed q × FirstNoOf later number p)

-- the verdict on a call of which these questions are asked
pub record DecidedBy (asked : List Question) (v : Verdict) : Type 0 where
  -- accepted exactly where every question passes,
  pub accepted_exactly : (v ≡ accepted) ↔ AllPassed asked
  -- and refused by a question at a place exactly where that is the first no
  pub refused_exactly : (number : ℕ) (p : Place) → (v ≡ refused number p) ↔ FirstNoOf asked number p

-- ---- Rows of a table

-- of cells (i, k): the number, the cells, and what is wanted there
abbrev pub question_of_cells : ℕ → (ℕ → ℕ → Type 0) → (ℕ → ℕ → Type 0) → Question
question_of_cells number asked_at wants = record { asked_at = asked_at; wants = wants; number_at = λ i k. number; place_at = at }

-- of the whole call, at the place (0, 0)
abbrev pub question_once : ℕ → Type 0 → Question
question_once number wanted = question_of_cells number (λ i k. (i ≡ 0) × (k ≡ 0)) (λ i k. wanted)

abbrev pub FromTo : ℤ → ℤ → ℤ → Type 0
FromTo low high x = (low ≤ℤ x) × (x ≤ℤ high)

-- the cells with i + k at most m
abbrev pub Cell : ℕ → ℕ → ℕ → Type 0
Cell m i k = (1 ≤ i) × (1 ≤ k) × (i + k ≤ m)
