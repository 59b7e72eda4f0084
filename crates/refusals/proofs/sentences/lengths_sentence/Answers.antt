-- The numbers are the lengths, each with the one that is wanted.
use mathlib.Core.Path.{ap, ◌∙◌}
use native.Mathlib.Omega.{arith}
use Rattle.integers.proofs.MachineArithmetic.{held}
use Rattle.printed.specs.Counts.{as_number}
use Rattle.refusals.specs.Sentences.{lengths_sentence}
use Rattle.refusals.proofs.sentences.lengths_sentence.Goals as goal

pub returns : goal.returns
unfolding lengths_sentence
returns c =
    let lent = c.args.lent in
    let n_is = simp (held lent.years (omega arith)) at c.count_of-n.ensures.0 in
    let cut_is = simp (held lent.cut (omega arith)) at c.count_of.ensures.0 in
    let amounts_is = c.signed-amounts.ensures ∙ ap as_number c.amounts_length.ensures in
    let weights_is = c.signed-4.ensures ∙ ap as_number c.weights_length.ensures in
    let openings_is = c.signed-6.ensures ∙ ap as_number c.saturating_sub.ensures in
    let numbers = simp (
      held c.signed-amounts.result c.signed-amounts.type_inv,
      held c.signed.result c.signed.type_inv,
      held c.signed-2.result c.signed-2.type_inv,
      held c.signed-3.result c.signed-3.type_inv,
      held c.signed-4.result c.signed-4.type_inv,
      held c.signed-5.result c.signed-5.type_inv,
      held c.signed-6.result c.signed-6.type_inv,
    ) at c.filled.ensures in
    rw (
      ← n_is,
      ← cut_is,
      ← amounts_is,
      ← c.signed.ensures,
      ← c.signed-2.ensures,
      ← c.signed-3.ensures,
      ← weights_is,
      ← c.signed-5.ensures,
      ← openings_is,
    )
    numbers
