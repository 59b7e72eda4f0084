-- The widest so far, with the widths that are left, is the widest of all.
use Rattle.std.proofs.Common.{ℕ, ◌≤◌, ◌<◌, ◌≡◌, ◌-◌}
use Rattle.printed.specs.Entries.{widest_from}
use Rattle.printed.proofs.columns.widest.Given as goal

abbrev pub invariant-loop-place : goal.invariant-loop-place
invariant-loop-place g l =
    (width : ℕ → ℕ) → ((place w : ℕ) → l.fn.places.start ≤ place → place < l.fn.places.end → goal.F-post g l.width place w → w ≡ width place)
    → widest_from width l.column l.place (l.fn.places.end - l.place) ≡ widest_from width l.fn.first l.fn.places.start (l.fn.places.end - l.fn.places.start)
