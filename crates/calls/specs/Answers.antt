-- What the call that fills both lists answers.
use Rattle.std.specs.Prelude.{◌≡◌, List, ℕ, ℤ}
use Rattle.method.specs.Triangle.{Triangle}
use Rattle.method.specs.RunOff.{Method, method}
use Rattle.method.specs.RunOff as meaning
use Rattle.method.specs.Verdicts.{Verdict, accepted}
use Rattle.method.specs.Questions.{question_9, questions, lengths_right}
use Rattle.method.specs.Answers.{Answer}

-- what the call that fills both lists gives back, and what it leaves in them
abbrev pub answer_of : Verdict → List ℤ → List ℤ → Answer
answer_of verdict future reserves = record { verdict = verdict; future = future; reserves = reserves }

-- every accident year of a method, projected into both lists; what a refusal leaves in them is cleared afterwards
pub record RowsProjected (m : Method) (v : Verdict) (future reserves : List ℤ) : Type 0 where
  pub verdict_is : v ≡ question_9 m
  pub future_is : v ≡ accepted → future ≡ meaning.future m
  pub reserves_are : v ≡ accepted → reserves ≡ meaning.reserves m

-- both lists filled, where all questions accept; what a refusal leaves in them is cleared afterwards
pub record Filled (t : Triangle) (future_room reserves_room : ℕ) (v : Verdict) (future reserves : List ℤ) : Type 0 where
  pub verdict_is : v ≡ questions t (lengths_right t future_room reserves_room)
  pub future_is : v ≡ accepted → future ≡ meaning.future (method t)
  pub reserves_are : v ≡ accepted → reserves ≡ meaning.reserves (method t)
