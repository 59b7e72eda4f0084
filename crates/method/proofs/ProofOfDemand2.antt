-- Demand 2, proved for every accepted triangle. Assumes nothing. Which figure stands where holds of the lists of any method.
use mathlib.Core.Path.{sym, subst}
use Prim.Native.Nat.{ℕ}
use native.Mathlib.Omega.{arith}
use lib.Signed.{◌<ℤ◌}
use lib.IntN.{pos}
use Rattle.method.specs.Triangle.{Triangle, n}
use Rattle.method.specs.Outstandings.{sums}
use Rattle.method.specs.ProjectedYear.{figures, next_year}
use Rattle.method.specs.RunOff.{Method, movement, future, reserves, reserves_row, method}
use Rattle.method.specs.Answers.{Answer}
use Rattle.method.specs.AnswerPlaces.{Projected}
use Rattle.method.specs.Demand2.{FiguresInPlace, Demand2, Demand2OfEveryAcceptedTriangle}
use Rattle.method.proofs.QuestionFacts.{Accepted}
use Rattle.method.proofs.Lists.{future_has_length, future_holds, reserves_has_length, reserves_hold}
use Rattle.method.proofs.Readings.{share_greatest}
use Rattle.method.proofs.WholeAnswers.{accepted_answer, triangle_of_accepted_answer}

pub figures_in_place : (m : Method) → FiguresInPlace m (future m) (reserves m)
unfolding figures reserves_row
figures_in_place m = record {
  future_whole = future_has_length m;
  reserves_whole = reserves_has_length m;
  payment = λ i k p. future_holds m 0 i k (omega arith) p;
  adjustment = λ i k p. future_holds m 1 i k (omega arith) p;
  outstanding = λ i k p. future_holds m 2 i k (omega arith) p;
  paid = λ i y. reserves_hold m 0 i (omega arith) y;
  incurred = λ i y. reserves_hold m 1 i (omega arith) y;
  closing_outstanding = λ i y. reserves_hold m 2 i (omega arith) y;
}

meets_demand_2 : (t : Triangle) → Accepted t → Demand2 t (future (method t)) (reserves (method t))
unfolding movement next_year
meets_demand_2 t ok = record {
  figures = figures_in_place (method t);
  payment_half_up = λ i k p. share_greatest _ _ _ (exposed i k p);
  adjustment_half_up = λ i k p. share_greatest _ _ _ (exposed i k p);
}
  where
    exposed : (i k : ℕ) → Projected (n t) i k → pos 0 <ℤ (sums t k).D
    exposed i k p = ok.exposure k (omega (arith, p.row, p.after)) p.year

pub demand_2 : Demand2OfEveryAcceptedTriangle
demand_2 t f r e = subst (λ (a : Answer). Demand2 t a.future a.reserves) (sym (accepted_answer t f r e)) (meets_demand_2 t (triangle_of_accepted_answer t f r e))
