-- A row handed back: that it ends inside its list, and the answer accepted or refused.
use mathlib.Core.Path.{◌≡◌, refl, sym, ap}
use mathlib.Core.List.{List, []}
use Prim.Native.Nat.{ℕ, ◌+◌, ◌-◌, ◌≤◌}
use native.Mathlib.Omega.{arith}
use lib.IntN.{ℤ, nat_abs}
use lib.ListN.{length, take, drop}
use Rattle.method.specs.Triangle.{cells_before}
use Rattle.method.specs.Verdicts.{Place, accepted, refused}
use Rattle.method.specs.Answers.{Amounts, payments, adjustments, named_list, row_verdict, row_of, row}
use Rattle.method.proofs.Positions.{row_inside}
use Rattle.verdicts.proofs.Counts.{few_cells}
use Rattle.rows.specs.Rows.{RowInside, ListInMemory, named_of}

pub ends_inside : {xs : List ℤ} {n i : ℕ} → RowInside xs n i → (cells_before n (i - 1) + (n + 1 - i) ≤ length xs) × (length xs ≤ 528)
ends_inside {xs} {n} {i} h =
    (omega (arith, row_inside n (i - 1) (omega (arith, h.first, h.last)), h.long, h.first), omega (arith, few_cells n (n + 1) h.most (omega (arith, h.most)), h.long))

-- what the list that is named holds
pub named_holds : (payment_list adjustment_list : ListInMemory) (named : Amounts)
    → (named_of payment_list adjustment_list named).now ≡ named_list payment_list.now adjustment_list.now named
unfolding named_list
named_holds payment_list adjustment_list payments = refl
named_holds payment_list adjustment_list adjustments = refl

module _ (years : ℤ) (payment_list adjustment_list : List ℤ) (accident_year : ℤ) (named : Amounts) where
  pub refused_row : {question : ℕ} {p : Place} → row_verdict years payment_list adjustment_list accident_year ≡ refused question p
      → [] ≡ row years payment_list adjustment_list accident_year named
  unfolding row row_of
  refused_row e = sym (ap (row_of years payment_list adjustment_list accident_year (named_list payment_list adjustment_list named)) e)

  module _ (e : row_verdict years payment_list adjustment_list accident_year ≡ accepted) where
    pub accepted_row : take (nat_abs years + 1 - nat_abs accident_year)
        (drop (cells_before (nat_abs years) (nat_abs accident_year - 1)) (named_list payment_list adjustment_list named))
        ≡ row years payment_list adjustment_list accident_year named
    unfolding row row_of
    accepted_row = sym (ap (row_of years payment_list adjustment_list accident_year (named_list payment_list adjustment_list named)) e)
