-- A total, one number more at a time.
use mathlib.Core.Path.{◌≡◌, sym, ap, ◌∙◌}
use Prim.Native.Nat.{ℕ, suc, ◌+◌, ◌-◌, ◌≤◌, ◌<◌}
use native.Mathlib.Numerals.{add-one}
use native.Mathlib.Omega.{arith}
use lib.IntN.{ℤ, ◌+ℤ◌}
use Rattle.exact_sums.specs.Exact.{exact_of}
use Rattle.std.specs.Prelude.{Option, Some, None}
use Rattle.reserve_table.specs.Totals.{then_on, total_from}

-- the numbers from a place on, up to an end
module _ (number : ℕ → ℤ) (total : ℤ) (place end : ℕ) where
  one_more : place < end
      → then_on (exact_of (total +ℤ number place)) (λ further. total_from number further (place + 1) (end - (place + 1)))
      ≡ total_from number total place (end - place)
  unfolding total_from
  one_more h =
      let more : end - place ≡ suc (end - (place + 1)) = omega arith in
      rw (more, add-one place)

  module _ (h : place < end) {added : Option ℤ} (is : added ≡ exact_of (total +ℤ number place)) where
    pub number_added : {further : ℤ} → added ≡ Some further
        → total_from number further (place + 1) (end - (place + 1)) ≡ total_from number total place (end - place)
    number_added of = ap (λ e. then_on e (λ further. total_from number further (place + 1) (end - (place + 1)))) (sym of ∙ is) ∙ one_more h

    pub too_large : added ≡ None → added ≡ total_from number total place (end - place)
    too_large beyond =
        beyond ∙ ap (λ e. then_on e (λ further. total_from number further (place + 1) (end - (place + 1)))) (sym beyond ∙ is) ∙ one_more h

  pub all_added : end ≤ place → Some total ≡ total_from number total place (end - place)
  unfolding total_from
  all_added h =
      let none : end - place ≡ 0 = omega arith in
      rw none
