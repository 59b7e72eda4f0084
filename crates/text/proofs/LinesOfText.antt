-- The lines of a text one by one: a text that is not at its end has a first line, and goes on with the others.
use mathlib.Core.Path.{◌≡◌, refl, sym, ap, ◌∙◌}
use mathlib.Core.Bool.{Bool, true, false, ◌&&◌, cond, and-false}
use mathlib.Core.List.{List, [], ◌∷◌, map}
use Prim.Native.Nat.{ℕ, zero, suc, ◌≤◌, ◌<◌}
use native.Mathlib.Omega.{arith}
use lib.Dec.{eqb}
use lib.ListN.{length, length-map, get_or, drop, drop_of_length-le}
use lib.Seq.{drop-cons}
use Rattle.std.proofs.lemmas.List.{length-drop}
use Rattle.text.specs.Bytes.{line_feed, carriage_return}
use Rattle.text.specs.Lines.{first_of, others_of, with_byte, line_feed_follows, whole_lines, without_comment, lines, AfterLine}

-- ---- Some line

abbrev some : List (List ℕ) → Type 0
some all = all ≡ first_of all ∷ others_of all

some_whole_line : (byte : ℕ) (text : List ℕ) → some (whole_lines (byte ∷ text))
unfolding whole_lines
some_whole_line byte [] = rw (and-false (eqb byte carriage_return)) (go (eqb byte line_feed))
  where
    go : (ends : Bool) → some (cond ends ([] ∷ []) (with_byte byte []))
    go true = refl
    go false = refl
some_whole_line byte (next ∷ text) =
    go (eqb byte line_feed) (eqb byte carriage_return && line_feed_follows (next ∷ text)) (some_whole_line next text)
  where
    go : (ends returns : Bool) → some (whole_lines (next ∷ text))
        → some (cond ends ([] ∷ whole_lines (next ∷ text)) (cond returns (whole_lines (next ∷ text)) (with_byte byte (whole_lines (next ∷ text)))))
    go true returns e = refl
    go false true e = e
    go false false e = refl

some_of_map : (f : List ℕ → List ℕ) (all : List (List ℕ)) → some all → some (map f all)
some_of_map f [] e = absurd (omega (arith, ap length e))
some_of_map f (line ∷ others) e = refl

some_line : (byte : ℕ) (text : List ℕ) → some (lines (byte ∷ text))
unfolding lines
some_line byte text = some_of_map without_comment (whole_lines (byte ∷ text)) (some_whole_line byte text)

-- ---- The first line and the others

pub lines_from : (text : List ℕ) (start : ℕ) → start < length text
    → lines (drop start text) ≡ first_of (lines (drop start text)) ∷ others_of (lines (drop start text))
lines_from text start within = rw (drop-cons text start 0 within) (some_line (get_or text start 0) (drop (suc start) text))

pub no_lines : (text : List ℕ) (start : ℕ) → length text ≤ start → lines (drop start text) ≡ []
unfolding lines whole_lines
no_lines text start h = rw (drop_of_length-le text h)

pub first_and_others : (text rest : List ℕ) → 0 < length text → AfterLine text rest → lines text ≡ first_of (lines text) ∷ lines rest
first_and_others text rest more after = lines_from text 0 more ∙ ap (λ others. first_of (lines text) ∷ others) (sym after.others)

-- ---- Lines that are passed

-- What is left after one line more is what follows the first of the lines that are left.
pub one_more_passed : (passed : ℕ) (all : List (List ℕ)) → others_of (drop passed all) ≡ drop (suc passed) all
one_more_passed zero [] = refl
one_more_passed zero (line ∷ others) = refl
one_more_passed (suc passed) [] = refl
one_more_passed (suc passed) (line ∷ others) = one_more_passed passed others

-- Where none is left, none is left after more.
pub none_left : (passed more : ℕ) (all : List (List ℕ)) → drop passed all ≡ [] → passed ≤ more → drop more all ≡ []
none_left passed more all none h = drop_of_length-le all (omega (arith, ap length none, length-drop passed all))

-- ---- How many lines a text has

others_within : (all : List (List ℕ)) → length (others_of all) ≤ length all
others_within [] = omega arith
others_within (line ∷ others) = omega arith

whole_lines_within : (text : List ℕ) → length (whole_lines text) ≤ length text
unfolding whole_lines
whole_lines_within [] = omega arith
whole_lines_within (byte ∷ text) = go (eqb byte line_feed) (eqb byte carriage_return && line_feed_follows text) (whole_lines_within text)
  where
    go : (ends returns : Bool) → length (whole_lines text) ≤ length text
        → length (cond ends ([] ∷ whole_lines text) (cond returns (whole_lines text) (with_byte byte (whole_lines text)))) ≤ suc (length text)
    go true returns h = omega arith
    go false true h = omega arith
    go false false h = omega (arith, others_within (whole_lines text))

-- each line has a byte at least
pub lines_within : (text : List ℕ) → length (lines text) ≤ length text
unfolding lines
lines_within text = omega (arith, length-map (whole_lines text) without_comment, whole_lines_within text)
