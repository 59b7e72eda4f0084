-- Amounts from the left, each that of its kind byte and float.
use Rattle.std.proofs.Common.{◌≡◌, ℕ, ◌+◌, ◌<◌, Bool, ◌&&◌, List, length, get_or, map, ℤ, pos, Float, Option, refl, sym, ap, ap₂, ◌∙◌, add-one, arith}
use Rattle.std.specs.Prelude.{is_some, unwrap_or}
use Rattle.std.specs.Float.{nan}
use Rattle.std.proofs.lemmas.List.{get_or-map}
use lib.Dec.{leb}
use lib.ListN.{length-map}
use Rattle.integers.proofs.MachineArithmetic.{held}
use Rattle.lists.proofs.Places.{none_filled, one_more_filled, all_filled}
use Rattle.workbook.specs.Workbook.{amounts_of}
use Rattle.workbook.proofs.Conversion.{amounts_same_length, amounts_hold}
use Rattle.workbook_cells.specs.Conversion.{amount_told, stored, convertible, all_convertible}
use Rattle.workbook_cells.proofs.Stored.{StoredAt, value_told, has_value_told}
use Rattle.workbook_cells.proofs.convert.Goals as goal

-- of all places, as a list
stored_there : (kinds : List ℕ) (numbers : List Float) → length kinds ≡ length numbers → (j : ℕ) (x : ℤ) → j < length numbers → StoredAt kinds numbers j x
    → x ≡ get_or (map stored (amounts_of kinds numbers)) j (pos 0)
stored_there kinds numbers e j x h is =
    is ∙ sym (get_or-map stored (amounts_of kinds numbers) j (pos 0) (pos 0) (omega (arith, amounts_same_length kinds numbers e)) ∙ ap stored (amounts_hold kinds numbers e j))

-- with the next cell
one_more_convertible : (kinds : List ℕ) (numbers : List Float) (j : ℕ) {all next : Bool} → all ≡ all_convertible j kinds numbers
    → next ≡ convertible (get_or kinds j 0) (get_or numbers j nan) → (all && next) ≡ all_convertible (j + 1) kinds numbers
unfolding all_convertible
one_more_convertible kinds numbers j before here = ap₂ ◌&&◌ before here ∙ ap (λ (m : ℕ). all_convertible m kinds numbers) (sym (add-one j))

pub loop-j-init : goal.loop-j-init
unfolding all_convertible
loop-j-init c = record { amounts = none_filled _; all = refl }

pub loop-j-preserved : goal.loop-j-preserved
loop-j-preserved c =
    let l = c.loop-j in
    let told = c.amount_of-whole.ensures ∙ ap amount_told c.cell_of.ensures in
    record {
      amounts =
          one_more_filled l.invariant.amounts (omega (arith, l.auto.amounts))
          (held _ c.unwrap_or.type_inv ∙ c.unwrap_or.ensures ∙ ap (λ (a : Option ℤ). unwrap_or a (pos 0)) told ∙ value_told _);
      all = one_more_convertible _ _ _ l.invariant.all (ap (λ (whole : Bool). leb (get_or c.args.cells.kinds.now l.j 0) 1 && whole) (c.is_some.ensures ∙ ap is_some told ∙ has_value_told _));
    }

pub returns-clause-amounts_after : goal.returns-clause-amounts_after
returns-clause-amounts_after c =
    let l = c.loop-j in
    let kinds = c.args.cells.kinds.now in
    let numbers = c.args.cells.numbers.now in
    all_filled l.invariant.amounts (omega (arith, l.auto.amounts)) (map stored (amounts_of kinds numbers))
    (length-map (amounts_of kinds numbers) stored ∙ amounts_same_length kinds numbers c.requires.0 ∙ sym c.requires.1)
    (λ j x h is. stored_there kinds numbers c.requires.0 j x (omega (arith, c.requires.1)) is)
