-- The rows up to the next heading, counted line by line.
use mathlib.Core.Path.{◌≡◌, refl, ap, ◌∙◌}
use mathlib.Core.Bool.{true, false, cond}
use mathlib.Core.List.{List, [], ◌∷◌}
use Prim.Native.Nat.{ℕ, suc, ◌+◌, ◌≤◌}
use native.Mathlib.Omega.{arith}
use lib.ListN.{length}
use Rattle.line_kinds.specs.Kinds.{kind_of, is_heading, same_kind}
use Rattle.headings.specs.Places.{counted, rows_in}
use Rattle.line_kinds.specs.declared.kinds.LineKind.TheVariants.{Blank, Separators, Payments, Adjustments, Weights, Openings, Cut, Cell, Row, Unknown}
use Rattle.line_kinds.specs.declared.kinds.LineKind.{LineKind}

counted_by_tests : (kind : LineKind) (rows : ℕ) → counted kind rows ≡ cond (is_heading kind) 0 (cond (same_kind kind Row) (suc rows) rows)
counted_by_tests Blank rows = refl
counted_by_tests Separators rows = refl
counted_by_tests Payments rows = refl
counted_by_tests Adjustments rows = refl
counted_by_tests Weights rows = refl
counted_by_tests Openings rows = refl
counted_by_tests Cut rows = refl
counted_by_tests Cell rows = refl
counted_by_tests Row rows = refl
counted_by_tests Unknown rows = refl

-- So many rows, and those of the lines that are left, are the rows of all.
module _ (separator : ℕ) (all : List (List ℕ)) where
  pub record CountedTo (count : ℕ) (rest : List (List ℕ)) : Type 0 where
    pub same_count : count + rows_in separator rest ≡ rows_in separator all
    pub room : count + length rest ≤ length all

  module _ (count : ℕ) (rest : List (List ℕ)) (so_far : CountedTo count rest) where
    all_counted : rows_in separator rest ≡ 0 → (count ≡ rows_in separator all) × (count ≤ length all)
    all_counted none_left = (omega (arith, so_far.same_count), omega (arith, so_far.room))

    pub lines_ended : rest ≡ [] → (count ≡ rows_in separator all) × (count ≤ length all)
    unfolding rows_in
    lines_ended ended = all_counted (ap (rows_in separator) ended)

    module _ (line : List ℕ) (others : List (List ℕ)) (steps : rest ≡ line ∷ others) where
      by_tests : rows_in separator rest
          ≡ cond (is_heading (kind_of separator line)) 0 (cond (same_kind (kind_of separator line) Row) (suc (rows_in separator others)) (rows_in separator others))
      unfolding rows_in
      by_tests = ap (rows_in separator) steps ∙ counted_by_tests (kind_of separator line) (rows_in separator others)

      pub rows_ended : is_heading (kind_of separator line) ≡ true → (count ≡ rows_in separator all) × (count ≤ length all)
      rows_ended heading = all_counted (rw heading at by_tests)

      module _ (no_heading : is_heading (kind_of separator line) ≡ false) where
        pub row_counted : same_kind (kind_of separator line) Row ≡ true → CountedTo (count + 1) others
        row_counted row = record {
          same_count = omega (arith, so_far.same_count, rw (no_heading, row) at by_tests);
          room = omega (arith, so_far.room, ap length steps);
        }

        pub other_passed : same_kind (kind_of separator line) Row ≡ false → CountedTo count others
        other_passed other = record {
          same_count = omega (arith, so_far.same_count, rw (no_heading, other) at by_tests);
          room = omega (arith, so_far.room, ap length steps);
        }
