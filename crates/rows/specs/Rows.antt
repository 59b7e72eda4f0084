-- The lists that a row's call lends and names, and the part of one that it hands back.
use Rattle.std.specs.Prelude.{◌≡◌, List, [], ℕ, ◌+◌, ◌*◌, ◌-◌, ◌≤◌, ℤ, nat_abs, length}
use Rattle.std.specs.Borrow.{Bor}
use Rattle.method.specs.Limits.{most_accident_years}
use Rattle.method.specs.Triangle.{amounts_length, cells_before}
use Rattle.method.specs.Verdicts.{accepted}
use Rattle.method.specs.Answers.{Amounts, payments, adjustments, row_verdict, row}
use Rattle.rows.specs.declared.AmountList.{AmountList}
use Rattle.rows.specs.declared.AmountList.TheVariants.{Payments, Adjustments}

abbrev pub amounts_of : AmountList → Amounts
amounts_of Payments = payments
amounts_of Adjustments = adjustments

-- where row i of the list of n years lies
pub record RowInside (xs : List ℤ) (n i : ℕ) : Type 0 where
  pub most : n ≤ most_accident_years
  pub first : 1 ≤ i
  pub last : i ≤ n
  pub long : length xs ≡ amounts_length n

-- ---- Where the row lies in memory

-- A list as it is lent: where it lies (`ref_ptr`, a block of memory and an offset in bytes) and the numbers that it holds (`now`).
abbrev pub ListInMemory : Type 0
ListInMemory = Bor (List ℤ)

-- the bytes of one number
abbrev pub number_bytes : ℕ
number_bytes = 8

-- r lies in the list xs itself, from the number after the first `before` ones on: it is that part of the caller's list, and no copy
pub record OwnPart (xs : ListInMemory) (before : ℕ) (r : ListInMemory) : Type 0 where
  pub same_block : r.ref_ptr.0 ≡ xs.ref_ptr.0
  pub offset : r.ref_ptr.1 ≡ xs.ref_ptr.1 + number_bytes * before

-- the list that a call names, as it is lent
abbrev pub named_of : ListInMemory → ListInMemory → Amounts → ListInMemory
named_of payment_list adjustment_list payments = payment_list
named_of payment_list adjustment_list adjustments = adjustment_list

-- What a row's call hands back: the row's numbers, and where it is accepted the part of the list that is named.
-- A refused row is empty. Where an empty row lies in memory is the one answer that is left free: nothing can be read there.
pub record RowReturned (years : ℤ) (payment_list adjustment_list : ListInMemory) (accident_year : ℤ) (named : Amounts) (r : ListInMemory) : Type 0 where
  pub holds : r.now ≡ row years payment_list.now adjustment_list.now accident_year named
  pub empty_where_refused : ¬ (row_verdict years payment_list.now adjustment_list.now accident_year ≡ accepted) → r.now ≡ []
  pub own_part : row_verdict years payment_list.now adjustment_list.now accident_year ≡ accepted
      → OwnPart (named_of payment_list adjustment_list named) (cells_before (nat_abs years) (nat_abs accident_year - 1)) r
