-- The lines under a heading are no more than the text has bytes, and none is longer than it.
use mathlib.Core.Path.{ap}
use mathlib.Core.Bool.{Bool, true, false, ◌&&◌, cond}
use mathlib.Core.List.{List, [], ◌∷◌}
use Prim.Native.Nat.{ℕ, zero, suc, ◌≤◌, ◌<◌}
use native.Mathlib.Omega.{arith}
use lib.Dec.{eqb}
use lib.ListN.{length, get_or, length-map}
use Rattle.std.specs.Prelude.{Some}
use Rattle.std.proofs.lemmas.List.{get_or-map}
use Rattle.text.specs.Bytes.{longest_text, line_feed, carriage_return}
use Rattle.text.specs.Lines.{others_of, with_byte, line_feed_follows, whole_lines, without_comment, lines}
use Rattle.text.proofs.Comments.{before_comment_within}
use Rattle.line_kinds.specs.Kinds.{kind_of, same_kind}
use Rattle.line_kinds.specs.declared.kinds.LineKind.{LineKind}
use Rattle.headings.specs.Places.{from_heading, lines_under, HeadingFound}
use Rattle.headings.specs.declared.places.Heading.{Heading}
use Rattle.headings.proofs.HeadingSearch.{rows_counted}
use Rattle.blocks.specs.Blocks.{Room, LinesInput}
use Rattle.blocks.specs.declared.lines.Shape.{Shape}
use Rattle.blocks.proofs.LinesOfBlock.{AllShort}

-- ---- No line is longer than the text

with_line_short : {most : ℕ} (all : List (List ℕ)) (line : List ℕ) → length line ≤ most → AllShort most all → AllShort most (line ∷ all)
with_line_short all line short others zero d h = short
with_line_short all line short others (suc k) d h = others k d (omega arith)

with_byte_short : {most : ℕ} (byte : ℕ) (all : List (List ℕ)) → AllShort most all → AllShort (suc most) (with_byte byte all)
with_byte_short byte [] short zero d h = omega arith
with_byte_short byte [] short (suc k) d h = absurd (omega arith)
with_byte_short byte (line ∷ others) short zero d h = omega (arith, short 0 d (omega arith))
with_byte_short byte (line ∷ others) short (suc k) d h = omega (arith, short (suc k) d (omega arith))

whole_lines_short : (text : List ℕ) → AllShort (length text) (whole_lines text)
unfolding whole_lines
whole_lines_short [] = λ k d h. absurd (omega arith)
whole_lines_short (byte ∷ text) = go (eqb byte line_feed) (eqb byte carriage_return && line_feed_follows text) (whole_lines_short text)
  where
    go : (ends returns : Bool) → AllShort (length text) (whole_lines text)
        → AllShort (suc (length text)) (cond ends ([] ∷ whole_lines text) (cond returns (whole_lines text) (with_byte byte (whole_lines text))))
    go true returns short = with_line_short (whole_lines text) [] (omega arith) (λ k d h. omega (arith, short k d h))
    go false true short = λ k d h. omega (arith, short k d h)
    go false false short = with_byte_short byte (whole_lines text) short

lines_short : {most : ℕ} (text : List ℕ) → length text ≤ most → AllShort most (lines text)
unfolding lines
lines_short text short k d h =
    let within : k < length (whole_lines text) = omega (arith, length-map (whole_lines text) without_comment) in
    let whole = whole_lines_short text k [] within in
    rw (get_or-map without_comment (whole_lines text) k [] d within)
    (omega (arith, before_comment_within true (get_or (whole_lines text) k []), whole))

-- ---- The lines under a heading are some of them

under_short : {most : ℕ} (separator : ℕ) (heading : LineKind) (all : List (List ℕ)) → AllShort most all → AllShort most (lines_under separator heading all)
unfolding from_heading
under_short separator heading [] short = short
under_short {most} separator heading (line ∷ others) short = go (same_kind (kind_of separator line) heading) (under_short separator heading others (λ k d h. short (suc k) d (omega arith)))
  where
    go : (same : Bool) → AllShort most (lines_under separator heading others)
        → AllShort most (others_of (cond same (line ∷ others) (from_heading separator heading others)))
    go true below = λ k d h. short (suc k) d (omega arith)
    go false below = below

pub lines_input : {text : List ℕ} {separator : ℕ} {heading : LineKind} {found : Heading} {shape : Shape} {room : ℕ}
    → HeadingFound text separator heading (Some found) → length text ≤ longest_text → Room shape 0 room
    → LinesInput (lines found.rows.rest.now) found.line shape room
lines_input {text} {separator} {heading} at short room = record {
  lines_short = rw (ap others_of at.lines_are) (under_short separator heading (lines text) (lines_short text short));
  few_lines = omega (arith, rows_counted at, short);
  room_for_all = room;
}
