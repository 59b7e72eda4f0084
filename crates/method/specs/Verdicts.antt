-- The verdict on a call: how the answers to questions make one. "Question" is a term of document 01: a test of the input, with a number.
use Rattle.std.specs.Prelude.{Bool, true, false, ℕ, ◌+◌, ◌-◌, ℤ, pos}
use Rattle.method.specs.Counting.{up_to}

-- a place (i, k), whole numbers of either sign
pub record Place : Type 0 where
  pub accident_year : ℤ
  pub development_year : ℤ

abbrev pub at : ℕ → ℕ → Place
at i k = record { accident_year = pos i; development_year = pos k }

abbrev pub nowhere : Place
nowhere = at 0 0

-- accepted, or refused by a question at a place
pub data Verdict : Type 0 where
  accepted : Verdict
  refused : ℕ → Place → Verdict

-- the number and the place that are answered
unfoldable pub number : Verdict → ℕ
number accepted = 0
number (refused question p) = question

unfoldable pub place : Verdict → Place
place accepted = nowhere
place (refused question p) = p

-- ---- Questions one after another

-- the first no decides
infixr 20 ◌then◌
unfoldable pub ◌then◌ : Verdict → Verdict → Verdict
accepted then v = v
refused question p then v = refused question p

-- yes, or a refusal
unfoldable pub ask : Bool → ℕ → Place → Verdict
ask true question p = accepted
ask false question p = refused question p

-- f 1, …, f m in this order
unfoldable pub first_to : ℕ → (ℕ → Verdict) → Verdict
first_to = up_to ◌then◌ accepted

-- a question with a test of each cell, in list order: of the m + 1 − i cells of row i, and of m such rows
unfoldable pub each_in_row : ℕ → ℕ → (ℕ → ℕ → Bool) → ℕ → Verdict
each_in_row m question test i = first_to (m + 1 - i) (λ k. ask (test i k) question (at i k))

unfoldable pub each_cell : ℕ → ℕ → (ℕ → ℕ → Bool) → Verdict
each_cell m question test = first_to m (each_in_row m question test)
