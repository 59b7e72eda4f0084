-- The share of a part is the outstanding times its quotient, and the share of its remainder; what the share leaves is what that of the remainder leaves.
use Rattle.std.proofs.Common.{◌≡◌, ℕ, ◌+◌, ◌^◌, ◌<◌, ◌≤◌, ℤ, pos, negsuc, ◌+ℤ◌, ◌-ℤ◌, ◌*ℤ◌, neg_ℤ, nat_abs, ◌≤ℤ◌, ◌<ℤ◌, sym, ap, ◌∙◌, subst, le_trans, le_of_eq, arith, w64, SFits, None}
use Rattle.integers.proofs.RingSolver.{ring, con, ◌:=◌, ◌:+◌, ◌:-◌, ◌:*◌}
use Rattle.integers.proofs.LinearFacts.{parts, <ℤ-by}
use Rattle.integers.proofs.Order.{nat_abs_parts, nat_abs_in_range, nat_abs-*ℤ, nat_abs-+ℤ, size_of_nonneg}
use Rattle.integers.proofs.MachineArithmetic.{fits_nat_abs}
use Rattle.integers.proofs.Rounding as rounding
use Rattle.method.specs.ProjectedYear.{share}
use Rattle.prepared_ratios.specs.declared.Ratio.{Ratio}
use Rattle.prepared_ratios.specs.Ratio.{greatest_size, greatest_product, part_of}
use Rattle.prepared_ratios.specs.declared.Divided.{Divided}
use Rattle.share.specs.Share.{ShareInput, share_or_too_large}
use Rattle.share.specs.NearestQuotient.{NearestQuotient}
use Rattle.share.proofs.Answers.{past_limit_too_large}

-- o (w d + r) from o r
with_quotient : (o w d r q l : ℤ) → o *ℤ r ≡ q *ℤ d +ℤ l → o *ℤ (w *ℤ d +ℤ r) ≡ (o *ℤ w +ℤ q) *ℤ d +ℤ l
with_quotient o w d r q l e =
    ring 4 (λ o w d r. o :* (w :* d :+ r) := o :* w :* d :+ o :* r) tt o w d r
    ∙ ap (λ t. o *ℤ w *ℤ d +ℤ t) e
    ∙ ring 5 (λ o w d q l. o :* w :* d :+ (q :* d :+ l) := (o :* w :+ q) :* d :+ l) tt o w d q l

-- x rounded half up, from what it leaves
nearest_by_left : (x d q l : ℤ) → x ≡ q *ℤ d +ℤ l → neg_ℤ d ≤ℤ (pos 2 *ℤ l) → (pos 2 *ℤ l) <ℤ d → rounding.Nearest x d q
nearest_by_left x d q l e low high = record { low = subst (λ t. neg_ℤ d ≤ℤ (pos 2 *ℤ t)) left low; high = subst (λ t. (pos 2 *ℤ t) <ℤ d) left high }
  where
    left : l ≡ x -ℤ q *ℤ d
    left = ring 3 (λ q d l. l := q :* d :+ l :- q :* d) tt q d l ∙ ap (λ t. t -ℤ q *ℤ d) (sym e)

-- one number more takes no more than itself from a size
nat_abs_plus-≥ : (x : ℤ) (q : ℕ) → nat_abs x ≤ nat_abs (x +ℤ pos q) + q
nat_abs_plus-≥ (pos n) q = omega (arith, nat_abs_parts (pos n +ℤ pos q), parts (con (pos n) :+ con (pos q)))
nat_abs_plus-≥ (negsuc n) q = omega (arith, nat_abs_parts (negsuc n +ℤ pos q), parts (con (negsuc n) :+ con (pos q)))

module _ {o : ℤ} {ratio : Ratio} {exposure : ℕ} (i : ShareInput o ratio exposure) where
  outstanding-≤ : nat_abs o ≤ greatest_size
  outstanding-≤ = nat_abs_in_range o (i.outstanding_nonneg, i.outstanding_most)

  pub outstanding_fits : SFits w64 o
  outstanding_fits = fits_nat_abs w64 o greatest_size outstanding-≤ (omega arith)

  module _ {near : Divided ℕ ℤ} (n : NearestQuotient (nat_abs o) ratio.remainder exposure near) where
    pub quotient-< : near.quotient < 2 ^ 63
    quotient-< = omega (arith, n.most, outstanding-≤)

    abbrev pub value : ℤ
    value = o *ℤ ratio.quotient +ℤ pos near.quotient

    left_of_value : o *ℤ part_of ratio exposure ≡ value *ℤ pos exposure +ℤ near.left
    left_of_value = with_quotient o ratio.quotient (pos exposure) (pos ratio.remainder) (pos near.quotient) near.left
        (ap (λ t. t *ℤ pos ratio.remainder) (sym (size_of_nonneg o i.outstanding_nonneg)) ∙ n.exact)

    pub value_is : value ≡ share o (part_of ratio exposure) (pos exposure)
    unfolding share
    value_is = rounding.half_up_unique (o *ℤ part_of ratio exposure) (pos exposure) value positive
        (nearest_by_left (o *ℤ part_of ratio exposure) (pos exposure) value near.left left_of_value n.low n.high)
      where
        positive : pos 0 <ℤ pos exposure
        positive = <ℤ-by (con (pos 0)) (con (pos exposure)) (omega (arith, i.ready.exposed.positive))

    -- what rounding took; no function answers it yet
    pub leftover_is : o *ℤ part_of ratio exposure ≡ share o (part_of ratio exposure) (pos exposure) *ℤ pos exposure +ℤ near.left
    leftover_is = subst (λ (v : ℤ). o *ℤ part_of ratio exposure ≡ v *ℤ pos exposure +ℤ near.left) value_is left_of_value

    pub beyond_reach : ratio.reach < nat_abs o → None ≡ share_or_too_large (share o (part_of ratio exposure) (pos exposure))
    beyond_reach h = past_limit_too_large value large ∙ ap share_or_too_large value_is
      where
        large : greatest_size < nat_abs value
        large = omega (arith, i.ready.reach.beyond (nat_abs o) h outstanding-≤, nat_abs-*ℤ o ratio.quotient, nat_abs_plus-≥ (o *ℤ ratio.quotient) near.quotient, n.most, outstanding-≤)

    module _ (h : nat_abs o ≤ ratio.reach) where
      product-≤ : nat_abs (o *ℤ ratio.quotient) ≤ greatest_product
      product-≤ = le_trans (le_of_eq (nat_abs-*ℤ o ratio.quotient)) (i.ready.reach.within (nat_abs o) h)

      pub product_fits : SFits w64 (o *ℤ ratio.quotient)
      product_fits = fits_nat_abs w64 (o *ℤ ratio.quotient) greatest_product product-≤ (omega arith)

      pub value_fits : SFits w64 value
      value_fits = fits_nat_abs w64 value (greatest_product + greatest_size)
          (omega (arith, nat_abs-+ℤ (o *ℤ ratio.quotient) (pos near.quotient), product-≤, n.most, outstanding-≤)) (omega arith)
