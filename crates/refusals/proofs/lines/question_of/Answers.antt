-- Beyond 1 to 13 there is no question.
use native.Mathlib.Omega.{arith}
use Rattle.refusals.proofs.Numbers.{number_from_1, number_to_13}
use Rattle.refusals.proofs.lines.question_of.Goals as goal

pub returns-in_default : goal.returns-in_default
returns-in_default c = λ question same. absurd (omega (arith, number_from_1 question, number_to_13 question, same))
