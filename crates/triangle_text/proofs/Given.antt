-- Whether a text has a heading, by what is found of it.
use mathlib.Core.Path.{◌≡◌, sym, ap}
use mathlib.Core.Bool.{Bool, true, false, cond}
use mathlib.Core.List.{List, [], ◌∷◌}
use Prim.Native.Nat.{ℕ, suc, ◌<◌}
use native.Mathlib.Omega.{arith}
use borrow.Author.Tests.{lt-ltb}
use lib.Dec.{ltb}
use lib.IntN.{pos}
use lib.ListN.{length}
use Rattle.std.specs.Prelude.{Option, Some, None}
use Rattle.std.specs.Option.{is_some}
use Rattle.text.specs.Lines.{lines, others_of}
use Rattle.line_kinds.specs.Kinds.{kind_of, same_kind}
use Rattle.line_kinds.specs.declared.kinds.LineKind.{LineKind}
use Rattle.headings.specs.Places.{from_heading, number_after_lines, line_number, lines_under, rows_in, HeadingFound}
use Rattle.headings.specs.declared.places.Heading.{Heading}

-- a heading that stands among some lines has a number
numbered : (separator : ℕ) (heading : LineKind) (before : ℕ) (all : List (List ℕ)) {line : List ℕ} {others : List (List ℕ)}
    → line ∷ others ≡ from_heading separator heading all → before < number_after_lines separator heading before all
unfolding from_heading number_after_lines
numbered separator heading before [] {line} {others} e = absurd (omega (arith, ap length e))
numbered separator heading before (first ∷ rest) {line} {others} e =
    go (same_kind (kind_of separator first) heading) e (λ h. numbered separator heading (suc before) rest {line = line} {others = others} h)
  where
    go : (same : Bool) → line ∷ others ≡ cond same (first ∷ rest) (from_heading separator heading rest)
        → (line ∷ others ≡ from_heading separator heading rest → suc before < number_after_lines separator heading (suc before) rest)
        → before < cond same (suc before) (number_after_lines separator heading (suc before) rest)
    go true h later = omega arith
    go false h later = omega (arith, later h)

module _ {text : List ℕ} {separator : ℕ} {heading : LineKind} where
  pub given : (r : Option Heading) → HeadingFound text separator heading r → is_some r ≡ ltb 0 (line_number separator heading (lines text))
  given None at = rw (sym at.line_is)
  given (Some found) at = sym (lt-ltb 0 (line_number separator heading (lines text)) (numbered separator heading 0 (lines text) at.lines_are))

  -- where it is not given there is no row under it
  pub no_rows : HeadingFound text separator heading None → pos 0 ≡ pos (rows_in separator (lines_under separator heading (lines text)))
  unfolding rows_in
  no_rows at = ap (λ all. pos (rows_in separator (others_of all))) at.lines_are
