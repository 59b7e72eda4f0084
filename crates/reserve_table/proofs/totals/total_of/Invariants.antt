-- What is summed so far, with the numbers that are left, is the total.
use Rattle.std.proofs.Common.{ℕ, ◌≤◌, ◌<◌, ◌≡◌, ◌-◌, ℤ, pos}
use Rattle.reserve_table.specs.Totals.{total_from}
use Rattle.reserve_table.proofs.totals.total_of.Given as goal

abbrev pub invariant-loop-place : goal.invariant-loop-place
invariant-loop-place g l =
    (number : ℕ → ℤ) → ((place : ℕ) (x : ℤ) → l.fn.places.start ≤ place → place < l.fn.places.end → goal.F-post g l.number place x → x ≡ number place)
    → total_from number l.total l.place (l.fn.places.end - l.place) ≡ total_from number (pos 0) l.fn.places.start (l.fn.places.end - l.fn.places.start)
