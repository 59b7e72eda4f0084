-- What is summed so far, with the numbers that are left, is the total.
use mathlib.Core.Path.{refl, ◌∙◌}
use Rattle.std.proofs.Common.{arith, w64, to_z}
use Rattle.integers.proofs.MachineArithmetic.{held}
use Rattle.reserve_table.proofs.TotalsSum.{number_added, too_large, all_added}
use Rattle.reserve_table.proofs.totals.total_of.Goals as goal

pub returns-in_err-total : goal.returns-in_err-total
returns-in_err-total g c =
    let l = c.loop-place in
    record {
      is = λ number are.
          let x = held c.number.result c.number.type_inv ∙ are l.place c.number.result (omega arith) (omega arith) c.number.ensures in
          rw c.from_residual.ensures (too_large number (to_z w64 l.total-bits) l.place c.args.places.end (omega arith) (rw x at c.in_err-total.ensures) refl ∙ l.invariant number are);
    }

pub loop-place-preserved : goal.loop-place-preserved
loop-place-preserved g c number are =
    let l = c.loop-place in
    let further = c.in_ok-total.total in
    let x = held c.number.result c.number.type_inv ∙ are l.place c.number.result (omega arith) (omega arith) c.number.ensures in
    rw (held further (omega arith)) (number_added number (to_z w64 l.total-bits) l.place c.args.places.end (omega arith) (rw x at c.in_ok-total.ensures) refl ∙ l.invariant number are)

pub returns : goal.returns
returns g c =
    record {
      is = λ number are.
          all_added number (to_z w64 c.loop-place.total-bits) c.loop-place.place c.args.places.end (omega arith) ∙ c.loop-place.invariant number are;
    }
