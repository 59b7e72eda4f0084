-- Each turn passes one word.
use mathlib.Core.Path.{◌≡◌, ap, ◌∙◌}
use Prim.Native.Nat.{suc, ◌+◌, ◌-◌}
use native.Mathlib.Omega.{arith}
use borrow.Author.Rules.{rules}
use Rattle.text.specs.Search.{parts_words, is_in_word, before, from}
use Rattle.line_parts.specs.Words.{word}
use Rattle.line_parts.proofs.WordsOfLine.{next_word}
use Rattle.line_parts.proofs.cells.Text.word.Goals as goal

pub loop-preserved : goal.loop-preserved
loop-preserved c =
    let separator = c.args.self.separator in
    let later = c.args.number - (c.loop.counter + 1) in
    let one_less : c.args.number - c.loop.counter ≡ suc later = omega arith in
    let start = c.from.ensures (is_in_word separator) (λ byte answer h. search rules) in
    let end = c.from-rest.ensures (parts_words separator) (λ byte answer h. search rules) in
    ap (word separator later) (end ∙ ap (from (parts_words separator)) start)
    ∙ next_word separator (c.args.number - c.loop.counter) later c.loop.rest.now one_less
    ∙ c.loop.invariant

pub returns : goal.returns
unfolding word
returns c =
    let separator = c.args.self.separator in
    let none : c.args.number - c.loop.counter ≡ 0 = omega arith in
    let start = c.from-2.ensures (is_in_word separator) (λ byte answer h. search rules) in
    let end = c.before-2.ensures (parts_words separator) (λ byte answer h. search rules) in
    end ∙ ap (before (parts_words separator)) start ∙ rw none at c.loop.invariant
