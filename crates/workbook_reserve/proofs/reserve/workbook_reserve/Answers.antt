-- Both lists filled, or cleared.
use Rattle.std.proofs.Common.{ℕ, replicate, pos, sym, ap, ◌∙◌}
use lib.Ieee.{of_bits}
use Rattle.floats.specs.WholeNumbers.{plus_zero}
use Rattle.workbook_reserve.proofs.Filled.{refused_whole, accepted_whole, with_demands}
use Rattle.workbook_reserve.proofs.reserve.workbook_reserve.Goals as goal

pub returns-then-is_err : goal.returns-then-is_err
unfolding of_bits
returns-then-is_err c =
    let w = with_demands _ _ _ (refused_whole _ c.fill-verdict.ensures (sym c.is_err.ensures.value ∙ c.if-is_err.true)) in
    rw (
      c.fill.ensures.after (λ y e. e) ∙ ap (λ (x : ℕ). replicate x (pos 0)) c.fill-verdict.auto.future,
      c.fill-then-is_err.ensures.after (λ y e. e) ∙ ap (λ (x : ℕ). replicate x plus_zero) c.fill-verdict.auto.pairs,
    )
    (record { whole = w.0; demand_1 = w.1.0; agrees = w.1.1 })

pub returns-else-is_err : goal.returns-else-is_err
returns-else-is_err c =
    let w = with_demands _ _ _ (accepted_whole _ c.fill-verdict.ensures (sym c.is_err.ensures.value ∙ c.if-is_err.false)) in
    record { whole = w.0; demand_1 = w.1.0; agrees = w.1.1 }
