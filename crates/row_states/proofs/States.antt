-- Amounts and states that are the same field by field.
use Rattle.std.proofs.Common.{◌≡◌, ap, ℕ, ℤ}
use Rattle.share.specs.declared.millionths.Millionths.{Millionths}
use Rattle.row_states.specs.declared.RowState.{RowState}

pub millionths : {x y : ℤ} → x ≡ y → ◌≡◌ {A = Millionths} (record { 0 = x }) (record { 0 = y })
millionths e = ap (λ (x : ℤ). record { 0 = x }) e

pub same_state : {projected : ℕ} {a b c d e f g h : Millionths} → a ≡ e → b ≡ f → c ≡ g → d ≡ h
    → ◌≡◌ {A = RowState} (record { projected = projected; outstanding = a; paid = b; incurred = c; first_payment = d })
    (record { projected = projected; outstanding = e; paid = f; incurred = g; first_payment = h })
same_state p q r s = cc
