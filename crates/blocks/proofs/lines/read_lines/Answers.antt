-- The lines that are left go on with the block (`BlocksRead`).
use mathlib.Core.Path.{◌≡◌, sym, ap, ◌∙◌}
use mathlib.Core.Bool.{false}
use Prim.Native.Nat.{suc, ◌+◌, ◌-◌, ◌≤◌}
use native.Mathlib.Numerals.{add-one}
use native.Mathlib.Omega.{arith}
use borrow.Author.Rules.{rules}
use borrow.Rule.Slice.PartMut.{put_mid}
use lib.ListN.{length, take, drop, length-drop}
use lib.Seq.{take_all}
use Rattle.lists.proofs.Parts.{rest_length, part_back}
use Rattle.line_kinds.specs.Kinds.{kind_of, is_heading}
use Rattle.line_kinds.specs.declared.kinds.LineKind.TheVariants.{Row}
use Rattle.line_kinds.proofs.SameKinds.{same_by_number}
use Rattle.row_text.proofs.ReadLists.{right_within}
use Rattle.blocks.specs.Blocks.{is_row, row_in, RowRead}
use Rattle.blocks.proofs.BlocksRead.{nothing_read, text_ended, heading_next, next_short, blank_next, fault_next, row_read}
use Rattle.blocks.proofs.lines.read_lines.Goals as goal
use Rattle.blocks.proofs.lines.read_lines.Goals.{After-read_row_of, At-loop-bytes, Else-is_heading, After-eq}

pub loop-bytes-init : goal.loop-bytes-init
loop-bytes-init c =
    rw c.into_iter-bytes-iterator.ensures.into_iter_gives (nothing_read c.requires.lines_short c.requires.room_for_all)

pub overflow_add-number : goal.overflow_add-number
overflow_add-number c =
    omega (arith, c.loop-bytes.invariant.few_lines, c.requires.few_lines)

pub returns : goal.returns
returns c = text_ended c.loop-bytes.invariant (search rules)

-- ---- The line that comes next

pub returns-then-is_heading : goal.returns-then-is_heading
returns-then-is_heading c =
    heading_next c.loop-bytes.invariant c.in-Some.ensures.steps (ap is_heading (sym c.kind_of-kind.ensures) ∙ sym c.is_heading.ensures ∙ c.if-is_heading.true)

no_heading : (c : Else-is_heading) → is_heading (kind_of c.args.separator c.in-Some.bytes.now) ≡ false
no_heading c = ap is_heading (sym c.kind_of-kind.ensures) ∙ sym c.is_heading.ensures ∙ c.if-is_heading.false

told_row : (c : After-eq) → is_row (kind_of c.args.separator c.in-Some.bytes.now) ≡ c.eq.result
told_row c = ap is_row (sym c.kind_of-kind.ensures) ∙ sym (same_by_number c.kind_of-kind.result Row) ∙ sym c.eq.ensures

-- ---- A blank line

pub loop-bytes-preserved : goal.loop-bytes-preserved
loop-bytes-preserved c =
    blank_next c.loop-bytes.invariant c.in-Some.ensures.steps (no_heading (goal.at.loop-bytes-preserved c).Else-is_heading) (told_row (goal.at.loop-bytes-preserved c).After-eq ∙ c.if-eq.false)

-- ---- A row

pub invariant_of-line : goal.invariant_of-line
invariant_of-line c = record { short = next_short c.loop-bytes.invariant c.in-Some.ensures.steps }

-- the part of the list that is lent
part_length : (c : At-loop-bytes) → let turn = c.loop-bytes in
    length (take (length turn.list - turn.count) (drop turn.count turn.list)) ≡ length c.args.list.now - turn.count
part_length c =
    let turn = c.loop-bytes in
    rest_length turn.list turn.count ∙ ap (λ n. n - turn.count) turn.invariant.same_length

pub read_row_of-requires : goal.read_row_of-requires
read_row_of-requires c = rw (part_length (goal.at.read_row_of-requires c).At-loop-bytes) c.loop-bytes.invariant.room

row_told : (c : After-read_row_of) → let turn = c.loop-bytes in
    RowRead c.args.shape (turn.rows + 1) (row_in c.args.separator c.args.shape (suc turn.number) turn.rows (length c.args.list.now - turn.count) c.in-Some.bytes.now)
    c.read_row_of.result c.read_row_of.new.list
row_told c =
    let turn = c.loop-bytes in
    let lent : length (take (length turn.list - turn.count) (drop turn.count turn.list)) ≡ length c.args.list.now - turn.count =
    rest_length turn.list turn.count ∙ ap (λ n. n - turn.count) turn.invariant.same_length in
    rw (lent, add-one turn.number) at c.read_row_of.ensures

pub returns-in_err-count : goal.returns-in_err-count
returns-in_err-count c =
    let read = (goal.at.returns-in_err-count c).After-read_row_of in
    fault_next c.loop-bytes.invariant c.in-Some.ensures.steps (no_heading (goal.at.returns-in_err-count c).Else-is_heading) (told_row (goal.at.returns-in_err-count c).After-eq ∙ c.if-eq.true)
    (row_told read) c.in_err-count.was (search rules) _

pub overflow_add-rows : goal.overflow_add-rows
overflow_add-rows c =
    let so_far = c.loop-bytes.invariant in
    omega (arith, so_far.few_rows, so_far.few_lines, c.requires.few_lines)

pub overflow_add-count : goal.overflow_add-count
overflow_add-count c =
    let so_far = c.loop-bytes.invariant in
    let more = right_within _ c.read_row_of.ensures.read c.in_ok-count.was in
    omega (arith, more, c.read_row_of.auto.list, part_length (goal.at.overflow_add-count c).At-loop-bytes, so_far.count_within)

-- the list as it comes back
pub loop-bytes-preserved-then-eq : goal.loop-bytes-preserved-then-eq
loop-bytes-preserved-then-eq c =
    let turn = c.loop-bytes in
    let read = (goal.at.loop-bytes-preserved-then-eq c).After-read_row_of in
    let within : turn.count ≤ length turn.list = omega (arith, turn.invariant.count_within, turn.invariant.same_length) in
    let back = part_back turn.list c.read_row_of.new.list turn.count (length turn.list - turn.count) within c.read_row_of.auto.list in
    let long = back.same_length ∙ turn.invariant.same_length in
    let lent = c.read_row_of.auto.list ∙ part_length (goal.at.loop-bytes-preserved-then-eq c).At-loop-bytes in
    row_read turn.invariant c.in-Some.ensures.steps (no_heading (goal.at.loop-bytes-preserved-then-eq c).Else-is_heading) (told_row (goal.at.loop-bytes-preserved-then-eq c).After-eq ∙ c.if-eq.true)
    (row_told read) c.in_ok-count.was long back.first_kept
    (sym (take_all (length c.read_row_of.new.list) _ (omega (arith, length-drop turn.count (put_mid turn.count (length turn.list - turn.count) turn.list c.read_row_of.new.list), long, lent))) ∙ back.part_there)
