-- Weights where a text gives none, filled in from the left.
use mathlib.Core.Path.{◌≡◌, refl, sym, ap, ap₂, ◌∙◌}
use mathlib.Core.List.{List, ◌∷◌, ◌++◌, append_assoc, append-nil}
use Prim.Native.Nat.{ℕ, zero, suc, ◌+◌, ◌-◌, ◌≤◌, ◌<◌, min}
use native.Mathlib.Nat.{suc-mul, mul-suc, min-zero, zero-sub}
use native.Mathlib.Numerals.{add-one, unary_clauses}
use native.Mathlib.Omega.{arith}
use lib.IntN.{ℤ, pos}
use lib.ListN.{length, take, drop, replicate}
use lib.Seq.{take-add, length-take-le}
use Rattle.lists.proofs.Parts.{PartBack}
use Rattle.method.specs.Triangle.{amounts_length, cells_before}
use Rattle.method.proofs.Positions.{row_inside, cells_before_is}
use Rattle.blocks.specs.Blocks.{default_row, default_from, default_weights}

-- ---- One row

pub row_length : (missing cells : ℕ) → length (default_row missing cells) ≡ cells
unfolding default_row
row_length missing zero = refl
row_length zero (suc cells) = ap suc (row_length zero cells)
row_length (suc missing) (suc cells) = ap suc (row_length missing cells)

-- the missing weights, and those that are known
pub row_by_parts : (missing cells : ℕ) → default_row missing cells ≡ replicate (min missing cells) (pos 0) ++ replicate (cells - missing) (pos 1)
unfolding default_row
row_by_parts missing zero = rw (min-zero missing, zero-sub missing) refl
row_by_parts zero (suc cells) = simp unary_clauses (ap (λ row. pos 1 ∷ row) (simp unary_clauses at (row_by_parts zero cells)))
row_by_parts (suc missing) (suc cells) = simp unary_clauses (ap (λ row. pos 0 ∷ row) (row_by_parts missing cells))

-- ---- Row after row

pub one_more_amount_row : (m : ℕ) → amounts_length (suc m) ≡ amounts_length m + suc m
one_more_amount_row m = omega (arith, mul-suc m m, mul-suc (suc m) (suc m), suc-mul m (suc m), add-one m, add-one (suc m))

-- what is left after a row of m numbers
pub room_after_row : {n rows room : ℕ} → rows < n → amounts_length (n - rows) ≤ room
    → (n - rows ≤ room) × (amounts_length (n - (rows + 1)) ≤ room - (n - rows))
room_after_row {n} {rows} {room} h enough =
    let left = n - (rows + 1) in
    let more : n - rows ≡ suc left = omega arith in
    let sum : amounts_length (n - rows) ≡ amounts_length left + suc left = ap amounts_length more ∙ one_more_amount_row left in
    omega arith

-- the weights of the first rows stand in a list with room for all
pub record WeightsFilled (n Y : ℕ) (list₀ list : List ℤ) (rows : ℕ) : Type 0 where
  pub same_length : length list ≡ length list₀
  pub rows_within : rows ≤ n
  pub room : amounts_length n ≤ length list₀
  pub goes_on : take (cells_before n rows) list ++ default_from Y rows (n - rows) ≡ default_weights n Y

pub no_row_filled : (n Y : ℕ) (list₀ : List ℤ) → amounts_length n ≤ length list₀ → WeightsFilled n Y list₀ list₀ 0
unfolding cells_before
no_row_filled n Y list₀ enough =
    let all : n - 0 ≡ n = omega arith in
    record { same_length = refl; rows_within = omega arith; room = enough; goes_on = rw all refl }

module _ {n Y : ℕ} {list₀ list : List ℤ} {rows : ℕ} (so_far : WeightsFilled n Y list₀ list rows) where
  module _ (h : rows < n) where
    pub row_fits : cells_before n rows + (n - rows) ≤ length list
    row_fits = omega (arith, row_inside n rows h, so_far.room, so_far.same_length)

    pub one_more_row : {list' : List ℤ} → length list' ≡ length list₀ → take (cells_before n rows) list' ≡ take (cells_before n rows) list
        → take (n - rows) (drop (cells_before n rows) list') ≡ default_row (Y - (rows + 1)) (n - rows)
        → WeightsFilled n Y list₀ list' (rows + 1)
    unfolding default_from cells_before
    one_more_row {list'} long kept filled =
        let left = n - (rows + 1) in
        let count = cells_before n rows in
        let more : n - rows ≡ suc left = omega arith in
        let row : default_row (Y - (rows + 1)) (n - rows) ≡ default_row (Y - suc rows) (suc left) = ap₂ default_row (ap (λ r. Y - r) (add-one rows)) more in
        let unfolded : default_from Y rows (n - rows) ≡ default_row (Y - suc rows) (suc left) ++ default_from Y (suc rows) left = ap (default_from Y rows) more in
        record {
          same_length = long;
          rows_within = omega arith;
          room = so_far.room;
          goes_on =
              ap₂ ◌++◌
              (ap (λ r. take (cells_before n r) list') (add-one rows) ∙ take-add count (n - rows) list' ∙ ap₂ ◌++◌ kept (filled ∙ row))
              (ap (λ r. default_from Y r left) (add-one rows))
              ∙ append_assoc (take count list) (default_row (Y - suc rows) (suc left)) (default_from Y (suc rows) left)
              ∙ ap (λ rest. take count list ++ rest) (sym unfolded)
              ∙ so_far.goes_on;
        }

    -- with the row back in the list
    pub row_back : {list' row : List ℤ} → PartBack list list' row (cells_before n rows) → length row ≡ n - rows
        → row ≡ default_row (Y - (rows + 1)) (n - rows) → WeightsFilled n Y list₀ list' (rows + 1)
    row_back {list'} {row} back long filled =
        one_more_row (back.same_length ∙ so_far.same_length) back.first_kept
        (ap (λ (cells : ℕ). take cells (drop (cells_before n rows) list')) (sym long) ∙ back.part_there ∙ filled)

  pub all_rows_filled : n ≤ rows → take (amounts_length n) list ≡ default_weights n Y
  unfolding default_from
  all_rows_filled h =
      let none : n - rows ≡ 0 = omega arith in
      let all : cells_before n rows ≡ amounts_length n = omega (arith, cells_before_is n rows 0 (omega (arith, so_far.rows_within))) in
      sym (append-nil (take (amounts_length n) list)) ∙ (rw (none, all) at so_far.goes_on)

  pub all_counted : n ≤ rows → amounts_length n ≡ length (default_weights n Y)
  all_counted h = sym (length-take-le (amounts_length n) list (omega (arith, so_far.room, so_far.same_length))) ∙ ap length (all_rows_filled h)
