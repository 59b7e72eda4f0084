-- The total as an entry, or that it is too large.
use Rattle.reserve_table.proofs.totals.with_total.Goals as goal

pub returns : goal.returns
returns g c = record { is = λ text are. rw c.in-None.is c.with_entry-in-None.ensures }
