-- As long as one another, and the same letter by letter.
use mathlib.Core.Path.{ap, ◌∙◌}
use mathlib.Core.Bool.{◌&&◌}
use Rattle.std.proofs.Common.{rules, nat_eq, length}
use Rattle.std.proofs.lemmas.Iterator.{YieldsList-from_slice, YieldsList-from_zip}
use Rattle.std.proofs.lemmas.Iterator.Search.{all_from_yields_List}
use Rattle.line_parts.proofs.WordsOfLine.{same_letter, letter_by_letter}
use Rattle.line_parts.proofs.words.is_word.Goals as goal

pub returns : goal.returns
returns c =
    let word = c.args.word.now in
    let name = c.args.name.now in
    let letters = all_from_yields_List same_letter c.all.new.self _ c.all.result c.all.ensures.ran
    (YieldsList-from_zip (YieldsList-from_slice word cc) (YieldsList-from_slice name cc)) (λ x b q k. search rules) in
    ap (λ same. nat_eq (length word) (length name) && same) letters ∙ letter_by_letter word name
