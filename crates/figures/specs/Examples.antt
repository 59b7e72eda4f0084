-- Worked examples: cells and what they hold.
-- The statement is proved in proofs/Examples.antt by computing it.
use Rattle.std.specs.Prelude.{◌≡◌, List, [], ◌∷◌, map, ℤ, Result, Ok, Err}
use Prim.Native.String.{String}
use Rattle.exact_sums.specs.Exact.{least, greatest}
use Rattle.figures.specs.Bytes.{bytes}
use Rattle.figures.specs.Reading.{figure_of}
use Rattle.figures.specs.declared.reading.NoFigure.{NoFigure}
use Rattle.figures.specs.declared.reading.NoFigure.TheVariants.{Blank, TooLarge, NotWhole}

pub record Cell : Type 0 where
  pub text : String
  pub figure : Result ℤ NoFigure

infix 70 ◌is◌
abbrev pub ◌is◌ : String → Result ℤ NoFigure → Cell
text is figure = record { text = text; figure = figure }

abbrev pub cells : List Cell
cells =
    "" is Err Blank
    ∷ "-" is Err NotWhole
    ∷ "12a" is Err NotWhole
    ∷ "9223372036854775807" is Ok greatest
    ∷ "9223372036854775808" is Err TooLarge
    ∷ "-9223372036854775808" is Ok least
    ∷ []

abbrev pub CellsHold : Type 0
CellsHold = map (λ (cell : Cell). figure_of (bytes cell.text)) cells ≡ map (λ (cell : Cell). cell.figure) cells
