-- A cell of what was read: what the functions that lead to it ask.
use Rattle.std.specs.Prelude.{◌≡◌, ℕ, ◌+◌, ◌≤◌, ◌<◌}
use Rattle.method.specs.AnswerPlaces.{AccidentYear}
use Rattle.method.specs.Verdicts.{accepted}
use Rattle.method.specs.Questions.{question_9_of_year}
use Rattle.prepared_years.specs.declared.triangle.PreparedTriangle.{PreparedTriangle}
use Rattle.run_off.specs.MethodRead.{method_read}

-- development year k of accident year i, from its last observed one on, where the accident year passed question 9
pub record CellYear (t : PreparedTriangle) (i k : ℕ) : Type 0 where
  pub row : AccidentYear t.n i
  pub from_last_observed : t.n < i + k
  pub last_year : k ≤ t.n
  pub passed : question_9_of_year (method_read t) i ≡ accepted
