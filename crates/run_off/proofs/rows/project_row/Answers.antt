-- Year by year: the state is the meaning's after each turn, and the figures of each year are written.
use Rattle.std.proofs.Common.{rules, ◌≡◌, ◌+◌, ◌-◌, ◌≤◌, ◌<◌, pos, get_or, ap, ◌∙◌, arith}
use Rattle.integers.proofs.MachineArithmetic.{Held}
use Rattle.method.specs.Verdicts.{refused, at}
use Rattle.method.proofs.Positions.{entry_place}
use Rattle.prepared_years.proofs.PreparedYears.{exposed_at_place}
use Rattle.run_off.proofs.ProjectedYears.{no_year, projected_is, year_to_project, outstanding_in_limit, too_large, movement_is, year_addable, one_year_more}
use Rattle.run_off.proofs.RowAnswers.{accepted_row, years_all_written, refused_row, written_before, none_written, room, one_more_written, all_written}
use Rattle.run_off.proofs.rows.project_row.Goals as goal

-- the last observed outstanding of the accident year
pub first-state-requires : goal.first-state-requires
first-state-requires g c =
    let t = c.args.triangle.now in
    let y = c.requires.i_in_triangle in
    let read : Held (get_or t.outstandings (c.args.i - 1) (pos 0)) = search rules in
    simp read (rw (entry_place t.outstandings c.args.i y.first) (t.outstandings_in_range c.args.i y.first y.last))

pub loop-projected-init : goal.loop-projected-init
loop-projected-init g c =
    let t = c.args.triangle.now in
    let y = c.requires.i_in_triangle in
    let read : Held (get_or t.outstandings (c.args.i - 1) (pos 0)) = search rules in
    let e = simp (entry_place t.outstandings c.args.i y.first) at (simp read at c.first-state.ensures) in
    none_written _ _ (rw e (no_year _ _ y.last))

pub place_of_next_year-place-requires : goal.place_of_next_year-place-requires
place_of_next_year-place-requires g c =
    year_to_project c.args.triangle.now c.requires.i_in_triangle c.loop-projected.invariant.row (omega arith)

pub next_year-requires : goal.next_year-requires
next_year-requires g c = (
  outstanding_in_limit c.args.triangle.now c.requires.i_in_triangle c.loop-projected.invariant.row (omega arith),
  exposed_at_place c.args.triangle.now _ _ c.place_of_next_year-place.ensures.inside,
)

pub returns-in_default : goal.returns-in_default
returns-in_default g c =
    let w = c.loop-projected.invariant in
    let more : c.loop-projected.projected + 1 < c.args.i = omega arith in
    let e = too_large c.args.triangle.now c.requires.i_in_triangle w.row more _ c.place_of_next_year-place.ensures.place c.next_year.ensures c.in_default.is in
    let t = c.args.triangle.now in
    let j = c.loop-projected.projected in
    let place : c.place_of_next_year-place.result + 2 ≡ t.n - c.args.i + j + 2 = omega (arith, c.place_of_next_year-place.ensures.place, projected_is t c.requires.i_in_triangle w.row) in
    let told = c.refusal_at.ensures ∙ ap (λ k. refused 9 (at c.args.i k)) place in
    all_written w (refused_row w.row c.requires.i_in_triangle.last more e told) (written_before w.row c.requires.i_in_triangle.last more e)

pub write-requires : goal.write-requires
write-requires g c = room c.loop-projected.invariant c.requires.i_in_bounds (omega arith)

pub with_year-state-requires : goal.with_year-state-requires
with_year-state-requires g c =
    year_addable c.args.triangle.now c.requires.i_in_triangle c.loop-projected.invariant.row (omega arith) _ c.place_of_next_year-place.ensures.place c.next_year.ensures c.in-Some.is

pub loop-projected-preserved : goal.loop-projected-preserved
loop-projected-preserved g c =
    let w = c.loop-projected.invariant in
    let more : c.loop-projected.projected + 1 < c.args.i = omega arith in
    let told = c.in-Some.is in
    rw (c.with_year-state.ensures, c.write.ensures)
    (one_more_written w (movement_is c.args.triangle.now c.requires.i_in_triangle w.row more _ c.place_of_next_year-place.ensures.place c.next_year.ensures told) (one_year_more c.args.triangle.now c.requires.i_in_triangle w.row more _ c.place_of_next_year-place.ensures.place c.next_year.ensures told))

pub returns : goal.returns
returns g c =
    let w = c.loop-projected.invariant in
    let done : c.args.i ≤ c.loop-projected.projected + 1 = omega arith in
    all_written w (accepted_row w.row c.requires.i_in_triangle.first c.requires.i_in_triangle.last done) (years_all_written w.row c.requires.i_in_triangle.first c.requires.i_in_triangle.last done)
