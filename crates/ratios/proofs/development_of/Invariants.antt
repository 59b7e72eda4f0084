-- A walk through the development years. What is shown holds for every cut, since no sum needs it;
-- that everything fits is known for the cut with which the triangle was asked.
use Rattle.std.proofs.Common.{ℤ}
use Rattle.lent.specs.Triangles.{triangle_of}
use Rattle.ratios.specs.Ratios.{with_cut}
use Rattle.ratios.proofs.AllRatios.{YearsMade}
use Rattle.ratios.proofs.development_of.Given as goal

abbrev pub invariant-loop-k : goal.invariant-loop-k
invariant-loop-k l = (cut : ℤ) → YearsMade (with_cut (triangle_of l.triangle) cut) l.ratios l.outstandings l.k
