-- Each part has one year at least, so that each turn leaves fewer.
use Prim.Native.Nat.{◌-◌}
use Rattle.reserve.proofs.completed_tables.print_table.Given as goal

abbrev pub decreases-loop-before : goal.decreases-loop-before
decreases-loop-before g l = l.table.n - l.before
