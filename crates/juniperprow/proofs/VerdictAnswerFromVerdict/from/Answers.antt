-- The two cases of a verdict.
use Rattle.std.proofs.Common.{rules, refl}
use Rattle.integers.proofs.MachineArithmetic.{held}
use Rattle.method.specs.Verdicts.{number, place}
use Rattle.juniperprow.specs.HostAnswers.{verdict_answer}
use Rattle.juniperprow.proofs.VerdictAnswerFromVerdict.from.Goals as goal

pub returns-in-Ok : goal.returns-in-Ok
unfolding verdict_answer number place
returns-in-Ok c = rw c.in-Ok.is refl

pub returns-in-Err : goal.returns-in-Err
unfolding verdict_answer number place
returns-in-Err c =
    let p = c.in-Err.refusal.place in
    rw (
      c.in-Err.is,
      held c.from.result c.from.type_inv,
      held p.accident_year (search rules),
      held p.development_year (search rules),
      c.from.ensures,
      c.number.ensures,
    ) refl
