-- A number that no question has is none of those that have a sentence of their own.
use Rattle.verdicts.specs.declared.verdict.Question.TheVariants.{Years, Cut, Lengths, WeightInRange, AmountRight, OutstandingInRange, WeightAllowed, Exposure, ProjectedFigure}
use Rattle.refusals.specs.Sentences.{sentence}
use Rattle.refusals.proofs.Numbers.{not_asked}
use Rattle.refusals.proofs.lines.sentence.Goals as goal

pub returns-in-None : goal.returns-in-None
unfolding sentence
returns-in-None c =
    let none = c.in-None.ensures in
    rw (
      not_asked none Years,
      not_asked none Cut,
      not_asked none Lengths,
      not_asked none WeightInRange,
      not_asked none AmountRight,
      not_asked none OutstandingInRange,
      not_asked none WeightAllowed,
      not_asked none Exposure,
      not_asked none ProjectedFigure,
    )
    c.seen_cell_sentence.ensures
