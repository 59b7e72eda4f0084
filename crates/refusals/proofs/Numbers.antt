-- The numbers of the questions.
use mathlib.Core.Path.{◌≡◌, sym}
use mathlib.Core.Bool.{false}
use Prim.Native.Nat.{ℕ, ◌≤◌}
use native.Mathlib.Omega.{arith}
use borrow.Author.Tests.{ne_eqb}
use lib.Dec.{eqb}
use Rattle.std.specs.Prelude.{◌≢◌}
use Rattle.verdicts.specs.declared.verdict.Question.{Question}
use Rattle.verdicts.specs.Verdicts.{number_of}

pub number_from_1 : (question : Question) → 1 ≤ number_of question
number_from_1 = grind arith

pub number_to_13 : (question : Question) → number_of question ≤ 13
number_to_13 = grind arith

-- of a number that no question has
pub not_asked : {number : ℕ} → ((question : Question) → number_of question ≢ number) → (question : Question) → eqb number (number_of question) ≡ false
not_asked none question = ne_eqb _ _ (λ same. none question (sym same))
