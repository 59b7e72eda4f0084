-- Three digits by the reciprocal; the laws are in Reciprocal.
use Rattle.std.proofs.Common.{rules, ◌^◌, ◌<◌}
use Rattle.prepared_ratios.proofs.Reciprocal.{digits_together, fraction_by, digits_together-<}
use Rattle.prepared_ratios.proofs.Divisor.fraction_of.Goals as goal
use Rattle.prepared_ratios.proofs.Divisor.fraction_of.Goals.{After-next_digit-third}

within : (c : After-next_digit-third) → digits_together c.next_digit-first.result c.next_digit-second.result c.next_digit-third.result < 2 ^ 64
within c = digits_together-< c.requires c.next_digit-first.ensures c.next_digit-second.ensures c.next_digit-third.ensures

pub overflow_add-result : goal.overflow_add-result
overflow_add-result c = search (rules, within (goal.at.overflow_add-result c).After-next_digit-third)

pub overflow_mul-result-2 : goal.overflow_mul-result-2
overflow_mul-result-2 c = search (rules, within (goal.at.overflow_mul-result-2 c).After-next_digit-third)

pub overflow_add-result-2 : goal.overflow_add-result-2
overflow_add-result-2 c = search (rules, within (goal.at.overflow_add-result-2 c).After-next_digit-third)

pub overflow_mul-result-3 : goal.overflow_mul-result-3
overflow_mul-result-3 c = search (rules, within (goal.at.overflow_mul-result-3 c).After-next_digit-third)

pub returns : goal.returns
returns c = fraction_by c.requires c.next_digit-first.ensures c.next_digit-second.ensures c.next_digit-third.ensures
