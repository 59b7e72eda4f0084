-- A triangle has one development: what is said of every place of both lists, and of their lengths, leaves no other.
use mathlib.Core.Path.{◌≡◌, sym, ap, ◌∙◌}
use mathlib.Core.List.{List}
use Prim.Native.Nat.{ℕ, ◌+◌, ◌≤◌}
use native.Mathlib.Decide.{dec_le}
use native.Mathlib.Omega.{arith}
use lib.IntN.{ℤ, pos}
use lib.ListN.{get_or}
use lib.Seq.{ext_get_or}
use Rattle.method.specs.Triangle.{Triangle, n}
use Rattle.method.specs.Outstandings as meaning
use Rattle.ratios.specs.declared.Sums.{Sums}
use Rattle.ratios.specs.Ratios.{no_sums, DevelopmentOf}

as_sums : meaning.Sums → Sums
as_sums s = record { payments = s.P; adjustments = s.Q; exposure = s.D }

module _ {t : Triangle} {ratios ratios' : List Sums} {outstandings outstandings' : List ℤ}
    (d : DevelopmentOf t ratios outstandings) (e : DevelopmentOf t ratios' outstandings') where
  same_year : (j : ℕ) → Dec (n t ≤ j + 1) → get_or ratios j no_sums ≡ get_or ratios' j no_sums
  unfolding as_sums
  same_year j (yes h) = d.year_beyond j h ∙ sym (e.year_beyond j h)
  same_year j (no h) = ap as_sums (d.year j (omega arith) ∙ sym (e.year j (omega arith)))

  same_outstanding : (r : ℕ) → Dec (n t ≤ r) → get_or outstandings r (pos 0) ≡ get_or outstandings' r (pos 0)
  same_outstanding r (yes h) = d.outstanding_beyond r h ∙ sym (e.outstanding_beyond r h)
  same_outstanding r (no h) = d.outstanding r (omega arith) ∙ sym (e.outstanding r (omega arith))

  pub one_development : (ratios ≡ ratios') × (outstandings ≡ outstandings')
  one_development = (
    ext_get_or no_sums ratios ratios' (d.ratios_long ∙ sym e.ratios_long) (λ j h. same_year j (dec_le (n t) (j + 1))),
    ext_get_or (pos 0) outstandings outstandings' (d.outstandings_long ∙ sym e.outstandings_long) (λ r h. same_outstanding r (dec_le (n t) r)),
  )
