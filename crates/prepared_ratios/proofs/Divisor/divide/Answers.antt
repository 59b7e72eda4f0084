-- An estimate by the reciprocal, and one correction; the laws are in Reciprocal.
use Rattle.prepared_ratios.proofs.Reciprocal.{estimated-≤, estimate_right, estimate_corrected}
use Rattle.prepared_ratios.proofs.Divisor.divide.Goals as goal

pub overflow_sub-left : goal.overflow_sub-left
overflow_sub-left c = rw c.high_product-estimate.ensures (estimated-≤ c.args.self c.requires)

pub returns-then-self-left : goal.returns-then-self-left
returns-then-self-left c = rw c.high_product-estimate.ensures (estimate_corrected c.args.self c.requires (rw c.high_product-estimate.ensures at c.if-self-left.true))

pub returns : goal.returns
returns c = rw c.high_product-estimate.ensures (estimate_right c.args.self c.requires (rw c.high_product-estimate.ensures at c.if-self-left.false))
