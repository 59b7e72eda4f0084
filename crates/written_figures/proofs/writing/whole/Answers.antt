-- The grouped digits of the size, and the sign before them.
use mathlib.Core.Path.{◌≡◌}
use lib.IntN.{nat_abs}
use Rattle.integers.proofs.MachineArithmetic.{held}
use Rattle.written_figures.specs.Writing.{Before, sign, grouped}
use Rattle.written_figures.proofs.TextsBefore.{both_before, before_nothing, text_of_written}
use Rattle.written_figures.proofs.TextLengths.{whole_text_length}
use Rattle.written_figures.proofs.writing.whole.Goals as goal

pub returns : goal.returns
returns c =
    let number = c.args.number in
    let room = whole_text_length number c.ranges.number in
    let given = held number c.ranges.number.sfits in
    let size : c.unsigned_abs.result ≡ nat_abs number = simp given at c.unsigned_abs.ensures.value in
    let digits : Before (grouped (nat_abs number)) _ _ = rw size at c.with_groups_before.ensures in
    let signed : Before (sign number) _ _ = simp given at c.with_sign_before.ensures in
    let is = before_nothing (both_before digits signed) c.nothing.ensures room in
    record { is = is; text = text_of_written room is }
