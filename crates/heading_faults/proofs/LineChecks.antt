-- The checks of all lines of a text, one by one.
use mathlib.Core.Path.{◌≡◌, sym, ◌∙◌}
use mathlib.Core.List.{List, [], ◌∷◌}
use Prim.Native.Nat.{ℕ, ◌+◌}
use native.Mathlib.Numerals.{add-one}
use Rattle.std.specs.Prelude.{Ok, Err}
use Rattle.line_kinds.specs.Kinds.{kind_of}
use Rattle.line_kinds.specs.declared.kinds.LineKind.{LineKind}
use Rattle.heading_faults.specs.Faults.{Checked, FirstFault, line_check, under_after, or_later, fault_after, heading_fault}
use Rattle.heading_faults.specs.declared.WrongLine.{WrongLine}

-- The lines that are left, after so many and under the last heading before them, have the first fault of all.
module _ (separator : ℕ) (all : List (List ℕ)) where
  pub record CheckedTo (under : LineKind) (number : ℕ) (rest : List (List ℕ)) : Type 0 where
    pub same_fault : fault_after separator all number under rest ≡ heading_fault separator all

  module _ (under : LineKind) (number : ℕ) (rest : List (List ℕ)) (so_far : CheckedTo under number rest) where
    pub no_fault : rest ≡ [] → Ok tt ≡ heading_fault separator all
    unfolding fault_after
    no_fault ended = rw ended at so_far.same_fault

    module _ (line : List ℕ) (others : List (List ℕ)) (steps : rest ≡ line ∷ others) (kind : LineKind) (kind_is : kind ≡ kind_of separator line)
        (checked : Checked) (is : checked ≡ line_check separator all (number + 1) under line kind) where
      later : FirstFault
      later = fault_after separator all (number + 1) (under_after under kind) others

      by_line : or_later checked (number + 1) later ≡ heading_fault separator all
      unfolding later fault_after
      by_line = rw (is, kind_is, add-one) (rw steps at so_far.same_fault)

      pub fault_here : (fault : WrongLine) → or_later checked (number + 1) (Ok tt) ≡ Err fault → Err fault ≡ heading_fault separator all
      fault_here fault told = go checked told by_line
        where
          go : (checked : Checked) → or_later checked (number + 1) (Ok tt) ≡ Err fault
              → or_later checked (number + 1) later ≡ heading_fault separator all → Err fault ≡ heading_fault separator all
          go (Ok nothing) told e = cc
          go (Err expected) told e = sym told ∙ e

      pub checks_go_on : (nothing : Unit {0}) → or_later checked (number + 1) (Ok tt) ≡ Ok nothing
          → CheckedTo (under_after under kind) (number + 1) others
      unfolding later
      checks_go_on nothing told = record { same_fault = go checked told by_line }
        where
          go : (checked : Checked) → or_later checked (number + 1) (Ok tt) ≡ Ok nothing
              → or_later checked (number + 1) later ≡ heading_fault separator all → later ≡ heading_fault separator all
          go (Ok nothing) told e = e
          go (Err expected) told e = cc
