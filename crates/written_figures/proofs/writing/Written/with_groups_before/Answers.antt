-- What is written so far are the last groups, and what is left makes the others.
use mathlib.Core.Path.{sym}
use mathlib.Core.List.{[], append-nil}
use native.Mathlib.Omega.{arith}
use Rattle.written_figures.proofs.TextsBefore.{nothing_before}
use Rattle.written_figures.proofs.GroupedDigits.{one_group_more, all_groups}
use Rattle.written_figures.proofs.writing.Written.with_groups_before.Goals as goal

pub loop-left-init : goal.loop-left-init
loop-left-init c = record { groups = []; before = nothing_before _; rest = sym (append-nil _); left_fits = omega arith }

pub loop-left-preserved : goal.loop-left-preserved
loop-left-preserved c =
    let turn = c.loop-left in
    one_group_more turn.invariant (omega arith) c.with_three_digits_before.ensures c.with_byte_before-so_far.ensures

pub returns : goal.returns
returns c = all_groups c.loop-left.invariant (omega arith) c.with_first_group_before.ensures
