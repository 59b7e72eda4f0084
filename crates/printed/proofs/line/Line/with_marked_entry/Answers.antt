-- Two spaces, those that are left of the column, the mark and the text.
use mathlib.Core.Path.{◌≡◌}
use mathlib.Core.List.{◌++◌}
use Prim.Native.Nat.{◌-◌}
use native.Mathlib.Omega.{arith}
use lib.ListN.{length, length-append}
use Rattle.printed.proofs.LineTexts.{both_after}
use Rattle.printed.proofs.line.Line.with_marked_entry.Goals as goal

pub returns : goal.returns
returns c =
    let args = c.args in
    let mark = args.mark.now in
    let text = args.text.now in
    let left : c.saturating_sub-spaces.result ≡ args.column - length (mark ++ text) = omega (arith, length-append mark text) in
    both_after c.with_spaces.ensures (both_after (rw left at c.with_spaces-2.ensures) (both_after c.with_text.ensures c.with_text-2.ensures))
