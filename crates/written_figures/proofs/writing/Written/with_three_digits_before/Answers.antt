-- The last digit first.
use Rattle.written_figures.proofs.TextsBefore.{both_before}
use Rattle.written_figures.proofs.writing.Written.with_three_digits_before.Goals as goal

pub returns : goal.returns
returns c = both_before (both_before c.with_digit_before.ensures c.with_digit_before-2.ensures) c.with_digit_before-3.ensures
