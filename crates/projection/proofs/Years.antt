-- One projected year: its two shares, its outstanding, and whether they are within the limit of question 9.
use Rattle.std.proofs.Common.{◌≡◌, refl, sym, ap₂, subst, Bool, true, false, ◌≤◌, arith, lit<, ltb-true, ltb-false, ℤ, pos, negsuc, ◌+ℤ◌, ◌-ℤ◌, ◌≤ℤ◌, nat_abs, w64, Some, None, cond}
use Rattle.std.proofs.lemmas.Option.{cond_some}
use borrow.Author.Tests.{le-leb, lt-leb}
use lib.Signed.{lt_z}
use mir.Val.{SFits}
use Rattle.integers.proofs.LinearFacts.{integers, fits_by}
use Rattle.integers.proofs.RingSolver.{con, ◌:+◌, ◌:-◌}
use Rattle.integers.proofs.Order.{nat_abs_parts}
use Rattle.integers.proofs.MachineArithmetic.{fits_nat_abs}
use Rattle.method.specs.Limits.{greatest_figure}
use Rattle.method.specs.SumLimits.{SumsInRange}
use Rattle.method.specs.Outstandings.{Sums}
use Rattle.method.specs.ProjectedYear.{Movement, share, next_year}
use Rattle.method.specs.Tests.{figure_in_range}
use Rattle.method.specs.Questions.{figures_in_range}
use Rattle.method.proofs.QuestionFacts.{FiguresInRange, figures_in_range_true}
use Rattle.method.proofs.Projection.{next_nonneg}
use Rattle.prepared_ratios.specs.Ratio.{greatest_size}
use Rattle.share.specs.Share as answer
use Rattle.share.specs.declared.millionths.Millionths.{Millionths}
use Rattle.share.proofs.Answers.{rounded_is, rounded_size, too_large_is}
use Rattle.projection.specs.declared.Movement as code
use Rattle.projection.specs.Year.{OutstandingInLimit, year_or_too_large, movement_of}

-- ---- The answer

none_where_refused : (b : Bool) (m : code.Movement) → None ≡ cond b (Some m) None → b ≡ false
none_where_refused true m e = cc
none_where_refused false m e = refl

pub too_large_year : (x : Movement) → None ≡ year_or_too_large x → figures_in_range x ≡ false
unfolding year_or_too_large
too_large_year x e = none_where_refused (figures_in_range x) (movement_of x) e

pub within_is : (x : Movement) (m : code.Movement) → Some m ≡ year_or_too_large x → (m ≡ movement_of x) × (figures_in_range x ≡ true)
unfolding year_or_too_large
within_is x m e = let (all, same) = cond_some (figures_in_range x) (movement_of x) m (sym e) in (sym same, all)

-- its figures as naturals
pub record FiguresSmall (m : code.Movement) : Type 0 where
  pub payment : nat_abs m.payment.0 ≤ greatest_size
  pub adjustment : nat_abs m.adjustment.0 ≤ greatest_size
  pub outstanding : nat_abs m.outstanding.0 ≤ greatest_size

pub within_small : (x : Movement) (m : code.Movement) → Some m ≡ year_or_too_large x → FiguresSmall m
within_small x m e = subst FiguresSmall (sym (within_is x m e).0) (small (figures_in_range_true x (within_is x m e).1))
  where
    small : FiguresInRange x → FiguresSmall (movement_of x)
    small f = record {
      payment = omega (arith, integers, f.payment);
      adjustment = omega (arith, integers, f.adjustment);
      outstanding = omega (arith, integers, f.outstanding);
    }

-- ---- The answer from the tests of the three figures

-- an outstanding that is not negative needs one test only
above : (x : ℤ) → pos 0 ≤ℤ x → lt_z greatest_figure x ≡ true → figure_in_range x ≡ false
unfolding figure_in_range
above (pos m) h e = lt-leb m greatest_size (ltb-true greatest_size m e)
above (negsuc m) h e = absurd h.le

not_above : (x : ℤ) → pos 0 ≤ℤ x → lt_z greatest_figure x ≡ false → figure_in_range x ≡ true
unfolding figure_in_range
not_above (pos m) h e = le-leb m greatest_size (ltb-false greatest_size m e)
not_above (negsuc m) h e = absurd h.le

module _ {r : ℤ} {s : Sums} (o : OutstandingInLimit r) (h : SumsInRange s) where
  abbrev paid : ℤ
  paid = share r s.P s.D

  abbrev adjusted : ℤ
  adjusted = share r s.Q s.D

  pub payment_too_large : None ≡ answer.share_or_too_large paid → None ≡ year_or_too_large (next_year r s)
  unfolding next_year year_or_too_large figures_in_range
  payment_too_large e = rw (too_large_is paid e)

  module _ {payment : Millionths} (p : Some payment ≡ answer.share_or_too_large paid) where
    pub adjustment_too_large : None ≡ answer.share_or_too_large adjusted → None ≡ year_or_too_large (next_year r s)
    unfolding next_year year_or_too_large figures_in_range
    adjustment_too_large e = rw ((rounded_is paid payment p).1, too_large_is adjusted e)

    payment_size : nat_abs payment.0 ≤ greatest_size
    payment_size = rounded_size paid payment p

    module _ {adjustment : Millionths} (a : Some adjustment ≡ answer.share_or_too_large adjusted) where
      abbrev next : ℤ
      next = r -ℤ payment.0 +ℤ adjustment.0

      adjustment_size : nat_abs adjustment.0 ≤ greatest_size
      adjustment_size = rounded_size adjusted adjustment a

      -- the movement that the code forms
      is_next_year : ◌≡◌ {A = Movement} (record { payment = payment.0; adjustment = adjustment.0; outstanding = next }) (next_year r s)
      unfolding next_year
      is_next_year = ap₂ (λ (x z : ℤ). record { payment = x; adjustment = z; outstanding = r -ℤ x +ℤ z }) (rounded_is paid payment p).0 (rounded_is adjusted adjustment a).0

      nonneg : pos 0 ≤ℤ next
      nonneg = subst (λ (m : Movement). pos 0 ≤ℤ m.outstanding) (sym is_next_year)
          (next_nonneg r s h.D_positive o.nonneg h.factor_nonneg)

      payment_in : figure_in_range payment.0 ≡ true
      unfolding figure_in_range
      payment_in = le-leb (nat_abs payment.0) greatest_size payment_size

      adjustment_in : figure_in_range adjustment.0 ≡ true
      unfolding figure_in_range
      adjustment_in = le-leb (nat_abs adjustment.0) greatest_size adjustment_size

      pub outstanding_too_large : lt_z greatest_figure next ≡ true → None ≡ year_or_too_large (next_year r s)
      unfolding year_or_too_large figures_in_range
      outstanding_too_large e = rw (← is_next_year, payment_in, adjustment_in, above next nonneg e)

      pub all_within : lt_z greatest_figure next ≡ false
          → Some (record { payment = payment; adjustment = adjustment; outstanding = record { 0 = next } }) ≡ year_or_too_large (next_year r s)
      unfolding year_or_too_large figures_in_range
      all_within e = rw (← is_next_year, payment_in, adjustment_in, not_above next nonneg e)

-- ---- Within 64 bits

-- an outstanding, its year's payment and adjustment, and what they make
pub record NumbersFit (r x z : ℤ) : Type 0 where
  pub outstanding : SFits w64 r
  pub payment : SFits w64 x
  pub adjustment : SFits w64 z
  pub less_payment : SFits w64 (r -ℤ x)
  pub next : SFits w64 (r -ℤ x +ℤ z)

pub numbers_fit : {r : ℤ} (p a : ℤ) {x z : Millionths} → OutstandingInLimit r → Some x ≡ answer.share_or_too_large p → Some z ≡ answer.share_or_too_large a → NumbersFit r x.0 z.0
numbers_fit {r} p a {x} {z} o e f =
    let b : nat_abs x.0 ≤ greatest_size = rounded_size p x e in
    let d : nat_abs z.0 ≤ greatest_size = rounded_size a z f in
    let h = o.nonneg in
    let l = o.most in
    record {
      outstanding = fits_by w64 (con r) (omega (arith, integers));
      payment = fits_nat_abs w64 x.0 greatest_size b (lit< tt);
      adjustment = fits_nat_abs w64 z.0 greatest_size d (lit< tt);
      less_payment = fits_by w64 (con r :- con x.0) (omega (arith, integers, nat_abs_parts x.0));
      next = fits_by w64 (con r :- con x.0 :+ con z.0) (omega (arith, integers, nat_abs_parts x.0, nat_abs_parts z.0));
    }
