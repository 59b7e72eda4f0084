-- What a projected year is asked of, and its answer.
use Rattle.std.specs.Prelude.{cond, ℤ, pos, ◌≤ℤ◌, Option, Some, None}
use Rattle.method.specs.Limits.{greatest_figure}
use Rattle.method.specs.ProjectedYear as meaning
use Rattle.method.specs.Questions.{figures_in_range}
use Rattle.projection.specs.declared.Movement.{Movement}

-- an outstanding within the limit of question 9
pub record OutstandingInLimit (outstanding : ℤ) : Type 0 where
  pub nonneg : pos 0 ≤ℤ outstanding
  pub most : outstanding ≤ℤ greatest_figure

abbrev pub movement_of : meaning.Movement → Movement
movement_of m = record {
  payment = record { 0 = m.payment };
  adjustment = record { 0 = m.adjustment };
  outstanding = record { 0 = m.outstanding };
}

-- a movement, where its figures are within the limit of question 9
unfoldable pub year_or_too_large : meaning.Movement → Option Movement
year_or_too_large m = cond (figures_in_range m) (Some (movement_of m)) None
