-- One pair after another, each inside the list: what stands in it is what the stores of j pairs leave.
use Rattle.std.proofs.Common.{◌≡◌, take}
use Rattle.std.proofs.lemmas.List.Edits.{sets}
use Rattle.workbook.specs.Pairs.{pairs}
use Rattle.reserve_pairs.proofs.write_pairs.Given as goal

abbrev pub invariant-loop-j : goal.invariant-loop-j
invariant-loop-j l = l.list ≡ sets l.initial.list 0 (pairs (take l.j l.amounts))
