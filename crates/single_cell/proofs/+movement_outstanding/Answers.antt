-- Outstanding and movement call each other, the year falling.
use Rattle.std.proofs.Common.{rules, ◌≡◌, ℕ, ◌+◌, ◌-◌, ◌<◌, pos, get_or, Some, refl, sym, ap, ◌∙◌, arith}
use Rattle.integers.proofs.MachineArithmetic.{Held}
use Rattle.method.specs.RunOff.{movement}
use Rattle.method.proofs.Positions.{entry_place}
use Rattle.prepared_years.proofs.PreparedYears.{exposed_at_place, sums_at_place}
use Rattle.projection.specs.declared.Movement.{Movement}
use Rattle.projection.specs.Year.{movement_of}
use Rattle.row_states.specs.declared.RowState.{RowState}
use Rattle.run_off.specs.MethodRead.{method_read}
use Rattle.single_cell.proofs.CellYears.{last_observed_year, later_year, in_range, year_before_it, outstanding_from_movement, movement_found}
use Rattle.single_cell.proofs.+movement_outstanding.Goals as goal
use Rattle.single_cell.proofs.+movement_outstanding.Goals.{movement-After-next_year}

-- ---- The movement

pub movement-outstanding-before-requires : goal.movement-outstanding-before-requires
movement-outstanding-before-requires t c =
    let (y, later) = c.requires in
    (let m = c.decreases in let l = y.row.last in search rules, year_before_it y later)

pub movement-next_year-requires : goal.movement-next_year-requires
movement-next_year-requires t c =
    let (y, later) = c.requires in
    let r = in_range (year_before_it y later) in
    let last : c.args.k - 2 + 1 < c.args.triangle.now.n = omega (arith, y.last_year, y.row.last) in
    (rw c.outstanding-before.ensures (record { nonneg = r.0; most = r.1 }), exposed_at_place c.args.triangle.now _ _ last)

-- the year that was projected
projected : (t : ℕ) (c : movement-After-next_year t) → c.next_year.result ≡ Some (movement_of (movement (method_read c.args.triangle.now) c.args.i (c.args.k - 1)))
projected t c =
    let (y, later) = c.requires in
    let p = c.args.triangle.now in
    let k = c.args.k in
    let sums = sums_at_place p.years (k - 2) (k - 1) c.index-triangle-k.result (omega (arith, p.years_long, p.most, y.last_year, y.row.last)) (omega (arith, y.row.last)) in
    c.next_year.ensures ∙ rw (c.outstanding-before.ensures, ← sums) (movement_found y later)

pub movement-unwrap-requires : goal.movement-unwrap-requires
movement-unwrap-requires t c = rw (projected t c) refl

pub movement-returns : goal.movement-returns
movement-returns t c = let e = sym c.unwrap.ensures ∙ projected t (goal.at.movement-returns t c).After-next_year in cc

-- ---- The outstanding

pub outstanding-movement-requires : goal.outstanding-movement-requires
outstanding-movement-requires t c =
    let y = c.requires in
    (let m = c.decreases in search rules, (y, later_year y c.if-i-k.false))

pub outstanding-first-requires : goal.outstanding-first-requires
outstanding-first-requires t c =
    let p = c.args.triangle.now in
    let i = c.args.i in
    let row = c.requires.row in
    let read : Held (get_or p.outstandings (i - 1) (pos 0)) = search rules in
    simp read (rw (entry_place p.outstandings i row.first) (p.outstandings_in_range i row.first row.last))

pub outstanding-returns-then-i-k : goal.outstanding-returns-then-i-k
outstanding-returns-then-i-k t c =
    let p = c.args.triangle.now in
    let i = c.args.i in
    let read : Held (get_or p.outstandings (i - 1) (pos 0)) = search rules in
    let e = simp (entry_place p.outstandings i c.requires.row.first) at (simp read at c.first.ensures) in
    ap (λ (s : RowState). s.outstanding.0) e ∙ last_observed_year c.requires c.if-i-k.true

pub outstanding-returns-else-i-k : goal.outstanding-returns-else-i-k
outstanding-returns-else-i-k t c =
    let y = c.requires in
    ap (λ (m : Movement). m.outstanding.0) c.movement.ensures ∙ sym (outstanding_from_movement y (later_year y c.if-i-k.false))
