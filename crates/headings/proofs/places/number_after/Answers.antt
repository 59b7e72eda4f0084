-- By the figure that the word after the heading is; a heading that is not there has no word.
use mathlib.Core.Path.{◌≡◌, refl, ap, ◌∙◌}
use Rattle.std.specs.Prelude.{ℤ, Result, Ok, Err, unwrap_or}
use Rattle.std.specs.Result.{result_ok}
use Rattle.figures.specs.Reading.{figure_of}
use Rattle.figures.specs.declared.reading.NoFigure.{NoFigure}
use Rattle.headings.specs.Places.{whole_or, number_after}
use Rattle.headings.proofs.HeadingSearch.{heading_word, no_heading_word}
use Rattle.headings.proofs.places.number_after.Goals as goal

or_other : (figure : Result ℤ NoFigure) (other : ℤ) → unwrap_or (result_ok figure) other ≡ whole_or other figure
or_other (Ok number) other = refl
or_other (Err fault) other = refl

pub returns-in_err-found : goal.returns-in_err-found
unfolding number_after figure_of
returns-in_err-found c = λ other.
    ap (λ number. unwrap_or number other) c.from_residual.ensures
    ∙ ap (λ word. whole_or other (figure_of word)) (no_heading_word (rw c.in_err-found.was at c.find_heading.ensures) c.args.number)

pub returns : goal.returns
unfolding number_after
returns c = λ other.
    let word = c.word.ensures ∙ heading_word (rw c.in_ok-found.was at c.find_heading.ensures) c.args.number in
    ap (λ number. unwrap_or number other) c.ok.ensures.value
    ∙ or_other c.figure_of.result other
    ∙ ap (whole_or other) (c.figure_of.ensures ∙ ap figure_of word)
