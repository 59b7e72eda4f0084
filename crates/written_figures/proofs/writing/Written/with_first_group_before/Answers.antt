-- Two digits.
use Rattle.std.proofs.Common.{arith}
use Rattle.std.proofs.lemmas.Grind.{common_steps}
use Rattle.written_figures.specs.Writing.{first_group}
use Rattle.written_figures.proofs.TextsBefore.{both_before}
use Rattle.written_figures.proofs.writing.Written.with_first_group_before.Goals as goal

pub returns-then-number-lt100 : goal.returns-then-number-lt100
unfolding first_group
returns-then-number-lt100 c =
    let both = both_before c.with_digit_before-then-number-lt100.ensures c.with_digit_before-then-number-lt100-2.ensures in
    grind (arith, common_steps)
