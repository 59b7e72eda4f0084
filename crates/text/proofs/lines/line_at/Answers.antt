-- A line more is passed each turn; where the text has ended, no line is left.
use mathlib.Core.Path.{◌≡◌, sym, ap, ◌∙◌}
use Prim.Native.Nat.{suc, ◌+◌, ◌-◌}
use native.Mathlib.Omega.{arith}
use lib.ListN.{length, drop}
use Rattle.std.proofs.lemmas.Bool.{eqb-true}
use Rattle.text.specs.Lines.{first_of, others_of, lines}
use Rattle.text.proofs.LinesOfText.{no_lines, one_more_passed, none_left}
use Rattle.text.proofs.lines.line_at.Goals as goal
use Rattle.text.proofs.lines.line_at.Goals.{else-loop-test, then-loop-test+then-is_empty}

pub loop-preserved : goal.loop-preserved
loop-preserved c =
    let all = lines c.args.text.now in
    let one_more : suc c.loop.counter ≡ c.loop.counter + 1 = omega arith in
    c.after_line-rest.ensures.others ∙ ap others_of c.loop.invariant ∙ one_more_passed c.loop.counter all
    ∙ ap (λ passed. drop passed all) one_more

pub returns : goal.returns
returns c =
    let all = lines c.args.text.now in
    c.first_line.ensures ∙ elim c.loop-test.branch [
      | else-loop-test w ↦
          let at_last : c.loop.counter ≡ c.args.number - 1 = omega (arith, w.loop-test.false) in
          ap first_of c.loop.invariant ∙ ap (λ passed. first_of (drop passed all)) at_last
      | then-loop-test+then-is_empty w ↦
          let rest = c.loop.rest.now in
          let ended : length rest ≡ 0 = eqb-true (length rest) 0 (sym w.is_empty.ensures ∙ w.if-is_empty.true) in
          let none = no_lines rest 0 (omega (arith, ended)) in
          let none_later = none_left c.loop.counter (c.args.number - 1) all (sym c.loop.invariant ∙ none) (omega (arith, w.loop-test.true)) in
          ap first_of (none ∙ sym none_later)
    ]
