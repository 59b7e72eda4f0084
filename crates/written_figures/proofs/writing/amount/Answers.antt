-- The decimals, the point, the grouped digits of the units, and the sign, each before the one named before it.
use mathlib.Core.Path.{◌≡◌}
use Prim.Native.Nat.{◌/◌}
use lib.IntN.{nat_abs}
use Rattle.integers.proofs.MachineArithmetic.{held}
use Rattle.written_figures.specs.Writing.{Before, sign, grouped, three_digits}
use Rattle.written_figures.proofs.TextsBefore.{both_before, before_nothing, text_of_written}
use Rattle.written_figures.proofs.TextLengths.{amount_text_length}
use Rattle.written_figures.proofs.writing.amount.Goals as goal

pub returns : goal.returns
returns c =
    let number = c.args.millionths in
    let room = amount_text_length number c.ranges.millionths in
    let given = held number c.ranges.millionths.sfits in
    let size : c.unsigned_abs-size.result ≡ nat_abs number = simp given at c.unsigned_abs-size.ensures.value in
    let last_three : Before (three_digits (nat_abs number)) _ _ = rw size at c.with_three_digits_before.ensures in
    let first_three : Before (three_digits (nat_abs number / 1000)) _ _ = rw size at c.with_three_digits_before-2.ensures in
    let units : Before (grouped (nat_abs number / 1_000_000)) _ _ = rw size at c.with_groups_before.ensures in
    let signed : Before (sign number) _ _ = simp given at c.with_sign_before.ensures in
    let is = before_nothing
    (both_before (both_before (both_before (both_before last_three first_three) c.with_byte_before.ensures) units) signed)
    c.nothing.ensures room in
    record { is = is; text = text_of_written room is }
