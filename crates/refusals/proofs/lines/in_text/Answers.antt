-- A number that no question has is none of those that the text has a line for.
use Rattle.verdicts.specs.declared.verdict.Question.TheVariants.{WeightInRange, AmountRight, OutstandingInRange, WeightAllowed}
use Rattle.refusals.specs.Sentences.{in_text}
use Rattle.refusals.proofs.Numbers.{not_asked}
use Rattle.refusals.proofs.lines.in_text.Goals as goal

pub returns-in-None : goal.returns-in-None
unfolding in_text
returns-in-None c =
    let none = c.in-None.ensures in
    rw (not_asked none WeightInRange, not_asked none AmountRight, not_asked none OutstandingInRange, not_asked none WeightAllowed)
