-- The widest so far, with the widths that are left, is the widest of all.
use mathlib.Core.Path.{ap, ◌∙◌}
use Rattle.std.proofs.Common.{max, arith}
use Rattle.printed.proofs.Widths.{one_width_more, no_width_more}
use Rattle.printed.proofs.columns.widest.Goals as goal

pub loop-place-preserved : goal.loop-place-preserved
loop-place-preserved g c width are =
    let l = c.loop-place in
    one_width_more width l.column l.place c.args.places.end (omega arith)
    (c.max-column.ensures ∙ ap (max l.column) (are l.place c.width.result (omega arith) (omega arith) c.width.ensures))
    ∙ l.invariant width are

pub returns : goal.returns
returns g c =
    record {
      is = λ width are.
          no_width_more width c.loop-place.column c.loop-place.place c.args.places.end (omega arith) ∙ c.loop-place.invariant width are;
    }
