-- One number of the list after another.
use Rattle.std.proofs.Common.{rules, get_or, pos, arith}
use Rattle.std.proofs.lemmas.List.{get_or_default}
use Rattle.std.proofs.lemmas.List.Edits.{map_over_more}
use Rattle.integers.proofs.MachineArithmetic.{held}
use Rattle.share_benchmark.specs.Shares.{share_number}
use Rattle.share_benchmark.proofs.take_shares.Goals as goal

pub loop-j-preserved : goal.loop-j-preserved
loop-j-preserved c =
    let l = c.loop-j in
    let x = get_or l.figures l.j (pos 0) in
    let share = simp (held x (search rules)) at c.share_of.ensures in
    rw (held c.share_of.result c.share_of.type_inv, share)
    (map_over_more (share_number _ _) c.args.figures.now l.figures l.j x (omega arith) l.invariant
    (get_or_default l.figures l.j (pos 0) x (omega (arith, l.auto.figures))))
