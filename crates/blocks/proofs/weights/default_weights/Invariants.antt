-- Row after row, from the left. Each row is a part of the list that is lent, filled, and back.
use Rattle.blocks.proofs.WeightsFilled.{WeightsFilled}
use Rattle.blocks.proofs.weights.default_weights.Given as goal

abbrev pub invariant-loop-rows : goal.invariant-loop-rows
invariant-loop-rows l = WeightsFilled l.n l.cut l.initial.list l.list l.rows
