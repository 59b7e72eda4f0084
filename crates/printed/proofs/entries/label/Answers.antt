-- The figure, with as many spaces before it as its column leaves.
use mathlib.Core.Path.{◌≡◌, ap, ◌∙◌}
use Prim.Native.Nat.{◌-◌}
use Rattle.integers.proofs.MachineArithmetic.{held}
use lib.ListN.{length}
use Rattle.printed.specs.Entries.{count_text}
use Rattle.printed.proofs.LineTexts.{both_after, line_after}
use Rattle.printed.proofs.entries.label.Goals as goal

pub returns : goal.returns
returns c =
    let written = rw c.signed.ensures at (simp (held c.signed.result c.signed.type_inv) at c.whole-written.ensures.text) in
    let text : c.text-2.result.now ≡ count_text c.args.number = c.text-2.ensures ∙ written in
    let left : c.saturating_sub-spaces.result ≡ c.args.column - length (count_text c.args.number) =
    c.saturating_sub-spaces.ensures ∙ ap (λ t. c.args.column - length t) (c.text.ensures ∙ written) in
    line_after c.empty.ensures (both_after (rw left at c.with_spaces.ensures) (rw text at c.with_text.ensures))
