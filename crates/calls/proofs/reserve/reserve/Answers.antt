-- Both lists filled, or cleared.
use mathlib.Core.Path.{sym, ap, ◌∙◌}
use Prim.Native.Nat.{ℕ}
use lib.IntN.{pos}
use lib.ListN.{replicate}
use Rattle.calls.proofs.BothLists.{refused_whole, accepted_whole, with_demands}
use Rattle.calls.proofs.reserve.reserve.Goals as goal

pub returns-then-is_err : goal.returns-then-is_err
returns-then-is_err c =
    rw (
      c.fill.ensures.after (λ y e. e) ∙ ap (λ (x : ℕ). replicate x (pos 0)) c.fill-verdict.auto.future,
      c.fill-then-is_err.ensures.after (λ y e. e) ∙ ap (λ (x : ℕ). replicate x (pos 0)) c.fill-verdict.auto.reserves,
    )
    (with_demands _ _ _ (refused_whole _ c.fill-verdict.ensures (sym c.is_err.ensures.value ∙ c.if-is_err.true)))

pub returns-else-is_err : goal.returns-else-is_err
returns-else-is_err c = with_demands _ _ _ (accepted_whole _ c.fill-verdict.ensures (sym c.is_err.ensures.value ∙ c.if-is_err.false))
