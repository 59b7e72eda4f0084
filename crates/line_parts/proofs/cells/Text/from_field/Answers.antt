-- Each turn passes one field.
use mathlib.Core.Path.{◌≡◌, ap, ◌∙◌}
use Prim.Native.Nat.{suc, ◌+◌, ◌-◌}
use native.Mathlib.Omega.{arith}
use Rattle.line_parts.specs.Cells.{after_cell, from_field}
use Rattle.line_parts.proofs.Fields.{next_field}
use Rattle.line_parts.proofs.cells.Text.from_field.Goals as goal

pub loop-preserved : goal.loop-preserved
loop-preserved c =
    let separator = c.args.self.separator in
    let later = c.args.number - (c.loop.counter + 1) in
    let one_less : c.args.number - c.loop.counter ≡ suc later = omega arith in
    let same = c.loop.invariant.0 in (
      c.after_cell-rest.ensures.separator ∙ same,
      ap (from_field separator later) (c.after_cell-rest.ensures.bytes ∙ ap (λ s. after_cell s c.loop.rest.bytes.now) same)
          ∙ next_field separator (c.args.number - c.loop.counter) later c.loop.rest.bytes.now one_less
          ∙ c.loop.invariant.1,
    )

pub returns-clause-bytes : goal.returns-clause-bytes
unfolding from_field
returns-clause-bytes c =
    let none : c.args.number - c.loop.counter ≡ 0 = omega arith in
    rw none at c.loop.invariant.1
