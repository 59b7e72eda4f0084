-- Each turn passes a line that is not the heading.
use mathlib.Core.Path.{◌≡◌, refl, sym, ap, ◌∙◌}
use mathlib.Core.List.{◌∷◌}
use native.Mathlib.Omega.{arith}
use borrow.Author.Rules.{rules}
use Rattle.text.specs.Lines.{lines}
use Rattle.text.proofs.LinesOfText.{no_lines, first_and_others}
use Rattle.line_kinds.specs.Kinds.{kind_of, same_kind}
use Rattle.line_kinds.proofs.SameKinds.{same_by_number}
use Rattle.headings.proofs.HeadingSearch.{found_there, found_nowhere, search_goes_on, left_at_first, left_after_next}
use Rattle.headings.proofs.places.find_heading.Goals as goal
use Rattle.headings.proofs.places.find_heading.Goals.{After-eq}

-- whether the line is the heading
told : (c : After-eq) → c.eq.result ≡ same_kind (kind_of c.args.text.separator c.first_line.result.now) c.args.heading
told c =
    c.eq.ensures
    ∙ same_by_number c.kind_of.result c.args.heading
    ∙ ap (λ kind. same_kind kind c.args.heading) c.kind_of.ensures

-- the line and those after it are the lines that were left
steps : (c : After-eq) → lines c.loop-rest.rest.now ≡ c.first_line.result.now ∷ lines c.after_line-rest.result.now
steps c =
    first_and_others c.loop-rest.rest.now c.after_line-rest.result.now (search rules) c.after_line-rest.ensures
    ∙ ap (λ line. line ∷ lines c.after_line-rest.result.now) (sym c.first_line.ensures)

pub loop-rest-init : goal.loop-rest-init
loop-rest-init c = (record { counted = omega arith; same_lines = refl; same_number = refl }, left_at_first c.args.text.bytes.now)

pub overflow_add-line : goal.overflow_add-line
overflow_add-line c = let within = c.loop-rest.invariant.1.line_within in search rules

pub returns-then-eq : goal.returns-then-eq
returns-then-eq c =
    let turn = (goal.at.returns-then-eq c).After-eq in
    found_there c.args.text.separator c.args.heading c.args.text.bytes.now c.loop-rest.line c.loop-rest.rest.now c.loop-rest.invariant.0
    c.loop-rest.invariant.1 c.first_line.result c.after_line-rest.result (search rules) c.after_line-rest.ensures (steps turn) (sym (told turn) ∙ c.if-eq.true)

pub loop-rest-smaller : goal.loop-rest-smaller
loop-rest-smaller c = c.after_line-rest.ensures.shorter (search rules)

pub loop-rest-preserved : goal.loop-rest-preserved
loop-rest-preserved c =
    let turn = (goal.at.loop-rest-preserved c).After-eq in (
      search_goes_on c.args.text.separator c.args.heading (lines c.args.text.bytes.now) c.loop-rest.line (lines c.loop-rest.rest.now)
          c.loop-rest.invariant.0 c.first_line.result.now (lines c.after_line-rest.result.now) (steps turn) (sym (told turn) ∙ c.if-eq.false),
      left_after_next c.args.text.bytes.now c.loop-rest.line c.loop-rest.rest.now c.loop-rest.invariant.1 c.after_line-rest.result.now (search rules)
          c.after_line-rest.ensures,
    )

pub returns : goal.returns
returns c =
    found_nowhere c.args.text.separator c.args.heading c.args.text.bytes.now c.loop-rest.line c.loop-rest.rest.now c.loop-rest.invariant.0
    (no_lines c.loop-rest.rest.now 0 (search rules))
