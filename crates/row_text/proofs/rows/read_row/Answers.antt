-- Each turn reads one cell more (`CellByCell`), until the row ends or the list is full.
use Rattle.std.proofs.Common.{rules, ◌≡◌, ◌≤◌, ◌+◌, length, ℤ, sym, ap, ◌∙◌, arith, refl, add-one, w64, FitsSigned, to_z}
use Rattle.std.proofs.lemmas.List.{set-get_or}
use Rattle.std.proofs.Math.Facts.{to_z-of_z}
use lib.ListN.{length-drop}
use Rattle.text.specs.Search.{is_byte, from}
use Rattle.text.proofs.Searches.{from_within}
use Rattle.line_parts.specs.Cells.{after_cell, from_content}
use Rattle.row_text.specs.Rows.{at_cell, after_entry}
use Rattle.row_text.proofs.CellByCell.{numbers_left, row_ends_here, number_follows, no_number_follows, cell_read, row_wrong, row_right, row_ended}
use Rattle.row_text.proofs.rows.read_row.Goals as goal
use Rattle.row_text.proofs.rows.read_row.Goals.{After-map_err}

pub returns-then-ends_here : goal.returns-then-ends_here
returns-then-ends_here c =
    let a = c.args in
    let turn = c.loop-cells in
    let rest = turn.rest in
    rw (set-get_or {A = ℤ})
    (
    row_right turn.invariant (omega (arith, turn.invariant.same_length))
    (row_ends_here rest.separator a.missing a.cumulated a.openings (length a.list.now) turn.cells (to_z w64 turn.figure-bits) rest.bytes.now
    c.loop-cells-test.true (sym c.ends_here.ensures ∙ c.if-ends_here.true))
    refl
    )

mapped : (c : After-map_err) → c.map_err.result ≡ at_cell (c.loop-cells.cells + 1) c.entry_in-entry.result
mapped c = search rules

-- the line goes on with the cell's entry
goes_on : (c : After-map_err) → let a = c.args in let turn = c.loop-cells in let rest = turn.rest in
    numbers_left rest.separator a.missing a.cumulated a.openings (length a.list.now) turn.cells (to_z w64 turn.figure-bits) rest.bytes.now
    ≡ after_entry c.map_err.result (λ figure. numbers_left rest.separator a.missing a.cumulated a.openings (length a.list.now) (turn.cells + 1) figure (after_cell rest.separator rest.bytes.now))
goes_on c =
    let a = c.args in
    let turn = c.loop-cells in
    let rest = turn.rest in
    rw (mapped c, c.entry_in-entry.ensures, c.first_cell.ensures, c.then_some-before.ensures, add-one turn.cells)
    (number_follows rest.separator a.missing a.cumulated a.openings (length a.list.now) turn.cells (to_z w64 turn.figure-bits) rest.bytes.now
    c.loop-cells-test.true (sym c.ends_here.ensures ∙ c.if-ends_here.false))

pub returns-in_err-entry : goal.returns-in_err-entry
returns-in_err-entry c =
    let a = c.args in
    let turn = c.loop-cells in
    let rest = turn.rest in
    let wrong = goes_on (goal.at.returns-in_err-entry c).After-map_err
    ∙ ap (λ entry. after_entry entry (λ figure. numbers_left rest.separator a.missing a.cumulated a.openings (length a.list.now) (turn.cells + 1) figure (after_cell rest.separator rest.bytes.now))) c.in_err-entry.was in
    rw (set-get_or {A = ℤ}) (row_wrong turn.invariant wrong (search rules))

pub loop-cells-preserved : goal.loop-cells-preserved
loop-cells-preserved c =
    let a = c.args in
    let turn = c.loop-cells in
    let rest = turn.rest in
    let entry = c.in_ok-entry.entry in
    let amount : FitsSigned w64 entry.amount = search rules in
    let figure : FitsSigned w64 entry.figure = search rules in
    let others = λ (figure : ℤ). numbers_left rest.separator a.missing a.cumulated a.openings (length a.list.now) (turn.cells + 1) figure (after_cell rest.separator rest.bytes.now) in
    let read = goes_on (goal.at.loop-cells-preserved c).After-map_err ∙ ap (λ entry. after_entry entry others) c.in_ok-entry.was in
    let further : length (after_cell rest.separator rest.bytes.now) ≤ length rest.bytes.now = omega (arith, length-drop 1 (from (is_byte rest.separator) rest.bytes.now), from_within (is_byte rest.separator) rest.bytes.now) in
    simp (to_z-of_z amount, to_z-of_z figure, c.after_cell-rest.ensures.bytes, c.after_cell-rest.ensures.separator)
    (cell_read turn.invariant entry.amount (others entry.figure) read (omega (arith, turn.invariant.same_length)) further)

pub returns : goal.returns
returns c =
    let a = c.args in
    let turn = c.loop-cells in
    let rest = turn.rest in
    let full : length turn.list ≡ turn.cells = omega (arith, turn.invariant.same_length) in
    row_ended turn.invariant (omega arith) rest.separator a.openings (from_content rest.separator rest.bytes.now)
    (no_number_follows rest.separator a.missing a.cumulated a.openings (length a.list.now) turn.cells (to_z w64 turn.figure-bits) rest.bytes.now c.loop-cells-test.false)
    (rw full at c.row_end.ensures)
