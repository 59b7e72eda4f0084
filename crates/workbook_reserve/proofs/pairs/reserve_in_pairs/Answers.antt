-- The whole answer of `reserve`, by way of the first places of a local array, and the pairs of its reserve list.
use Rattle.std.proofs.Common.{◌≡◌, ◌*◌, ◌/◌, length, take, replicate, pos, refl, ◌∙◌, arith, nat_abs}
use lib.Seq.{length-take-le}
use Rattle.method.proofs.FirstRefusal.{not_both}
use Rattle.verdicts.proofs.Refusals.{handed_on}
use Rattle.workbook_reserve.proofs.Filled.{filled_by_answer}
use Rattle.workbook_reserve.proofs.pairs.reserve_in_pairs.Goals as goal
use Rattle.workbook_reserve.proofs.pairs.reserve_in_pairs.Goals.{Start}

-- the reserve list, of which the pairs are made
reserves_long : (s : Start) → length (take (length s.args.pairs.now / 2) (replicate 96 (pos 0))) ≡ 3 * nat_abs s.args.triangle.years
reserves_long s = length-take-le (length s.args.pairs.now / 2) (replicate 96 (pos 0)) (omega (arith, s.requires.0, s.requires.1)) ∙ omega (arith, s.requires.1)

pub returns-in_err-reserve : goal.returns-in_err-reserve
returns-in_err-reserve c =
    rw (handed_on _ _ c.from_residual.ensures.1)
    (filled_by_answer _ _ _ (reserves_long (goal.at.returns-in_err-reserve c).Start) c.in_err-reserve.ensures.whole (λ a. absurd (not_both a refl)))

pub returns : goal.returns
returns c = filled_by_answer _ _ _ (reserves_long (goal.at.returns c).Start) c.in_ok-reserve.ensures.whole (λ a. c.write_pairs.ensures)
