-- The table of examples, and the triangle beside it, each by one computation of the definitions.
use mathlib.Core.Path.{refl}
use Rattle.exact_sums.specs.Exact.{fits, exact_of}
use Rattle.written_figures.specs.Writing.{first_group, grouped_in, grouped}
use Rattle.printed.specs.Filling.{filled}
use Rattle.refusals.specs.Counts.{count_of}
use Rattle.refusals.specs.Sentences.{refused_line, cut_sentence, lengths_sentence, amount_sentence, opening_sentence, outstanding_sentence, exposure_sentence, seen_cell_sentence, amounts_sentence, observed_sentence, sentence, see_line, see_lines}
use Rattle.refusals.specs.Examples.{RefusalsHold, LentHolds}

pub refusals_hold : RefusalsHold
unfolding fits exact_of first_group grouped_in grouped filled count_of refused_line cut_sentence lengths_sentence amount_sentence opening_sentence outstanding_sentence exposure_sentence seen_cell_sentence amounts_sentence observed_sentence sentence see_line see_lines
refusals_hold = refl

pub lent_holds : LentHolds
lent_holds = refl
