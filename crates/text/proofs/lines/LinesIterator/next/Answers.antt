-- A text that has ended has no line, and every other one goes on with the others after its first.
use Rattle.std.proofs.Common.{rules, ◌≡◌, length, ◌∷◌, sym, ap, ◌∙◌}
use Rattle.text.specs.Lines.{lines}
use Rattle.text.proofs.LinesOfText.{no_lines, first_and_others}
use Rattle.text.proofs.lines.LinesIterator.next.Goals as goal
use Rattle.text.proofs.lines.LinesIterator.next.Goals.{After-after_line-self}

pub returns-then-is_empty-clause-steps : goal.returns-then-is_empty-clause-steps
returns-then-is_empty-clause-steps c =
    let e = no_lines c.args.self.now.rest.now 0 (search rules) in
    (e, e)

steps : (c : After-after_line-self) → lines c.args.self.now.rest.now ≡ c.first_line-line.result.now ∷ lines c.after_line-self.result.now
steps c =
    let rest = c.args.self.now.rest.now in
    first_and_others rest c.after_line-self.result.now (search rules) c.after_line-self.ensures
    ∙ ap (λ line. line ∷ lines c.after_line-self.result.now) (sym c.first_line-line.ensures)

pub returns-clause-steps : goal.returns-clause-steps
returns-clause-steps c = steps (goal.at.returns-clause-steps c).After-after_line-self

pub returns-clause-goes : goal.returns-clause-goes
returns-clause-goes c =
    let e = ap length (steps (goal.at.returns-clause-goes c).After-after_line-self) in
    search rules
