-- Those whose sentence is a template with numbers as they are handed in.
use mathlib.Core.List.{List, [], ◌∷◌}
use Prim.Native.Nat.{ℕ, ◌^◌, ◌<◌}
use native.Mathlib.Omega.{arith}
use lib.IntN.{ℤ}
use lib.Signed.{mag}
use mir.Syntax.{w64}
use mir.Val.{hbits, to_z, of_z}
use Rattle.integers.proofs.MachineArithmetic.{held}
use Rattle.printed.specs.declared.line.Line.{Line}
use Rattle.printed.specs.Line.{LineIs}
use Rattle.printed.specs.Filling.{filled}
use Rattle.refusals.specs.Sentences.{years_sentence, weight_sentence, weight_not_0_sentence, projected_sentence, sentence}
use Rattle.refusals.proofs.lines.sentence_of.Goals as goal

-- a place and what stands there, as 64 bits hold them
of_place : (i k x : ℤ) (template : List ℕ) {r : Line} → LineIs (filled template (to_z w64 (of_z w64 i) ∷ to_z w64 (of_z w64 k) ∷ to_z w64 (of_z w64 x) ∷ [])) r
    → mag i < 2 ^ hbits w64 → mag k < 2 ^ hbits w64 → mag x < 2 ^ hbits w64 → LineIs (filled template (i ∷ k ∷ x ∷ [])) r
of_place i k x template line i_fits k_fits x_fits = simp (held i i_fits, held k k_fits, held x x_fits) at line

pub returns-in-Years : goal.returns-in-Years
unfolding years_sentence sentence
returns-in-Years c = rw c.in-Years.is (simp (held c.args.lent.years (omega arith)) at c.filled.ensures)

pub returns-in-WeightInRange : goal.returns-in-WeightInRange
unfolding weight_sentence sentence
returns-in-WeightInRange c = rw c.in-WeightInRange.is (of_place _ _ _ _ c.filled-in-WeightInRange.ensures (omega arith) (omega arith) (omega arith))

pub returns-in-WeightAllowed : goal.returns-in-WeightAllowed
unfolding weight_not_0_sentence sentence
returns-in-WeightAllowed c = rw c.in-WeightAllowed.is (of_place _ _ _ _ c.filled-in-WeightAllowed.ensures (omega arith) (omega arith) (omega arith))

pub returns-in-ProjectedFigure : goal.returns-in-ProjectedFigure
unfolding projected_sentence sentence
returns-in-ProjectedFigure c =
    let i_held = held c.args.place.accident_year (omega arith) in
    let k_held = held c.args.place.development_year (omega arith) in
    rw c.in-ProjectedFigure.is (simp (i_held, k_held) at c.filled-in-ProjectedFigure.ensures)
