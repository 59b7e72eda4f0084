-- Where the triangle has no such row, a fault; else the row is read into the left of the list.
use mathlib.Core.Path.{◌≡◌, ap, ◌∙◌}
use mathlib.Core.List.{◌++◌}
use Prim.Native.Nat.{◌-◌, ◌≤◌}
use native.Mathlib.Numerals.{add-one}
use native.Mathlib.Omega.{arith}
use lib.ListN.{length, take, drop, length-append, length-drop}
use lib.Seq.{length-take-le}
use Rattle.blocks.proofs.WeightsFilled.{room_after_row}
use Rattle.blocks.proofs.RowsOfBlock.{no_further_row, row_of_triangle}
use Rattle.blocks.proofs.lines.read_of_triangle.Goals as goal

pub returns-then-triangle-rows : goal.returns-then-triangle-rows
returns-then-triangle-rows c =
    let a = c.args in
    no_further_row a.line.text.separator a.triangle a.line.number a.rows a.line.text.bytes.now a.list.now c.if-triangle-rows.true

pub returns : goal.returns
returns c =
    let a = c.args in
    let list = a.list.now in
    let cells = a.triangle.n - a.rows in
    let read = c.read_row in
    let fits : cells ≤ length list = (room_after_row c.if-triangle-rows.false c.requires.1).0 in
    let counted : length (take cells list) ≡ cells = length-take-le cells list fits in
    let part : length read.new.list ≡ cells = read.auto.list ∙ counted in
    let whole : length (read.new.list ++ drop cells list) ≡ length list = omega (arith, part, length-append read.new.list (drop cells list), length-drop cells list) in
    let missing = c.saturating_sub-missing.ensures ∙ ap (λ r. a.triangle.cut - r) (add-one a.rows) in
    rw c.at_line.ensures
    (
    row_of_triangle a.line.text.separator a.triangle a.line.number a.rows a.line.text.bytes.now (drop cells list) c.if-triangle-rows.false
    (rw whole c.requires) (rw (missing, counted) at read.ensures) part
    )
