-- One pair after another: what stands in the list is what the stores of j pairs leave.
use Rattle.std.proofs.Common.{rules, get_or, pos, refl, ap, ◌∙◌, arith, to_z-of_z, w64}
use Rattle.std.proofs.lemmas.List.Edits.{sets}
use lib.Seq.{take_all}
use Rattle.workbook.specs.Pairs.{pairs}
use Rattle.reserve_pairs.proofs.StoredPairs.{one_more_pair, all_pairs}
use Rattle.reserve_pairs.proofs.write_pairs.Goals as goal

pub loop-j-init : goal.loop-j-init
unfolding pairs
loop-j-init c = refl

pub loop-j-preserved : goal.loop-j-preserved
loop-j-preserved c =
    let a = c.args in
    rw (c.loop-j.invariant, c.from-units.ensures, to_z-of_z {w = w64} {z = get_or a.amounts.now c.loop-j.j (pos 0)} (search rules)) (one_more_pair a.list.now a.amounts.now c.loop-j.j (omega arith))

pub returns : goal.returns
returns c =
    let a = c.args in
    c.loop-j.invariant
    ∙ ap (λ amounts. sets a.list.now 0 (pairs amounts)) (take_all c.loop-j.j a.amounts.now (omega arith))
    ∙ all_pairs a.list.now a.amounts.now c.requires
