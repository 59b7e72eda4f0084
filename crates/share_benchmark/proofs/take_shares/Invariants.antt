-- One number of the list after another: those behind are shares, and the others as they were.
use Rattle.std.proofs.Common.{◌≡◌, ◌++◌, map, take, drop, pos}
use Rattle.prepared_ratios.specs.Ratio.{part_of}
use Rattle.share_benchmark.specs.Shares.{share_number}
use Rattle.share_benchmark.proofs.take_shares.Given as goal

abbrev pub invariant-loop-j : goal.invariant-loop-j
invariant-loop-j l =
    l.figures ≡ map (share_number (part_of l.ratio l.exposure) (pos l.exposure)) (take l.j l.initial.figures) ++ drop l.j l.initial.figures
