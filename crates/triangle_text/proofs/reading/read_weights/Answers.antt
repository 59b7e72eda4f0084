-- By whether the text has the heading of weights.
use mathlib.Core.Path.{sym, ap, ◌∙◌}
use mathlib.Core.Bool.{not}
use Rattle.triangle_text.proofs.Given.{given}
use Rattle.triangle_text.proofs.BlocksUnder.{weights_given, weights_filled_in}
use Rattle.triangle_text.proofs.reading.read_weights.Goals as goal

pub returns-then-is_none : goal.returns-then-is_none
returns-then-is_none c =
    let a = c.args in
    let none = sym (given _ c.find_heading.ensures) ∙ c.is_none.ensures ∙ ap not c.if-is_none.true in
    weights_filled_in a.short.text.separator _ a.n a.cut _ _ none c.default_weights.ensures.0 c.default_weights.ensures.1

pub returns : goal.returns
returns c =
    let a = c.args in
    let some = sym (given _ c.find_heading.ensures) ∙ c.is_none.ensures ∙ ap not c.if-is_none.false in
    weights_given a.short.text.separator _ a.n a.cut _ _ some c.read_triangle.ensures
