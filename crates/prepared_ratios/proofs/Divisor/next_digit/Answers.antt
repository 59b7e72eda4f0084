-- One digit by the reciprocal; the laws are in Reciprocal.
use Rattle.std.proofs.Common.{rules}
use Rattle.prepared_ratios.proofs.Reciprocal.{scaled-≤, taken-≤, next_digit_by}
use Rattle.prepared_ratios.proofs.Divisor.next_digit.Goals as goal

pub overflow_mul-digit : goal.overflow_mul-digit
overflow_mul-digit c = search (rules, scaled-≤ c.args.self c.requires)

pub overflow_mul-result-2 : goal.overflow_mul-result-2
overflow_mul-result-2 c = search (rules, taken-≤ c.args.self c.requires)

pub overflow_sub-result : goal.overflow_sub-result
overflow_sub-result c = taken-≤ c.args.self c.requires

pub returns : goal.returns
returns c = next_digit_by c.args.self c.requires
