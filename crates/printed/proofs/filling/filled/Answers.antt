-- What is left of the template, with the numbers that are left, makes the whole after what is there.
use borrow.Author.Rules.{rules}
use native.Mathlib.Omega.{arith}
use mathlib.Core.Path.{◌≡◌, ap, ◌∙◌}
use lib.IntN.{ℤ, pos}
use lib.ListN.{get_or, drop}
use Rattle.std.proofs.Common.{Iter}
use Rattle.std.specs.Option.{unwrap_or}
use Rattle.integers.proofs.MachineArithmetic.{held}
use Rattle.printed.proofs.LineTexts.{nothing_after, line_after}
use Rattle.printed.proofs.Fillings.{number_taken, place_filled, byte_kept, nothing_left}
use Rattle.printed.proofs.filling.filled.Goals as goal
use Rattle.printed.proofs.filling.filled.Goals.{then-byte-eq64, else-byte-eq64}

pub loop-byte-init : goal.loop-byte-init
loop-byte-init c = (search rules, λ r after. line_after c.empty-line.ensures (rw c.iter-left.ensures.rest at after))

pub loop-byte-preserved : goal.loop-byte-preserved
loop-byte-preserved c =
    let template = c.args.template.now in
    let at = c.loop-byte.byte-index in
    elim c.if-byte-eq64.branch [
      | then-byte-eq64 w ↦ (
        search rules,
        λ r after.
            let taken = number_taken _ _ w.next.result w.next.ensures.steps in
            let number : w.unwrap_or.result ≡ get_or c.loop-byte.left.rest.now 0 (pos 0) = w.unwrap_or.ensures ∙ ap (λ o. unwrap_or o (pos 0)) w.copied.ensures ∙ taken.0 in
            let others : c.if-byte-eq64.left.rest.now ≡ drop 1 c.loop-byte.left.rest.now = ap (λ (i : Iter ℤ). i.rest.now) w.left-is ∙ taken.1 in
            let written = rw (number, ← w.line-is) at (simp (held w.unwrap_or.result w.unwrap_or.type_inv) at w.with_number-line.ensures) in
            c.loop-byte.invariant.1 r (place_filled template c.loop-byte.left.rest.now at c.loop-byte-test.true w.if-byte-eq64.true others written after),
      )
      | else-byte-eq64 w ↦ (
        search rules,
        λ r after. c.loop-byte.invariant.1 r (byte_kept template c.loop-byte.left.rest.now at c.loop-byte-test.true w.if-byte-eq64.false (rw (← w.line-is) at w.with_byte-line.ensures) (rw w.left-is at after)),
      )
    ]

pub returns : goal.returns
returns c =
    let line = c.loop-byte.line in
    c.loop-byte.invariant.1 line (nothing_left c.args.template.now _ _ (omega arith) (nothing_after line c.loop-byte.invariant.0))
