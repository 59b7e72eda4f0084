-- One development year after another.
use Rattle.std.proofs.Common.{arith}
use Rattle.prepared_years.proofs.PreparedYears.{one_more_year, one_more_kept, all_kept}
use Rattle.prepared_years.proofs.years.prepare_years.Goals as goal

pub loop-k-preserved : goal.loop-k-preserved
loop-k-preserved c =
    let p = c.loop-k.invariant in
    record {
      within = omega arith;
      kept = one_more_kept _ c.loop-k.auto.k p.kept;
      year = one_more_year _ _ _ _ (omega (arith, p.kept.same_length, c.requires)) c.loop-k.auto.k p.year c.of.ensures;
    }

pub returns : goal.returns
returns c = record { kept = all_kept c.loop-k.invariant.within c.loop-k.invariant.kept; year = λ j h. c.loop-k.invariant.year j (omega arith) }
