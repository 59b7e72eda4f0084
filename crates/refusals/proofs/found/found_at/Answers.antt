-- Each number by the function that reads it.
use borrow.Author.Rules.{rules}
use Rattle.refusals.proofs.found.found_at.Goals as goal

pub returns : goal.returns
returns c = record {
  weight_there = search rules;
  payment_there = search rules;
  adjustment_there = search rules;
  outstanding_there = search rules;
  payment_right_there = search rules;
  opening_there = search rules;
}
