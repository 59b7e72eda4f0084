-- What a cell of a row holds: an amount, or what was expected in it.
use Rattle.std.specs.Prelude.{Bool, true, false, ℤ, pos, ◌-ℤ◌, Option, Some, None, Result, Ok, Err}
use Rattle.exact_sums.specs.Exact.{exact_of}
use Rattle.figures.specs.declared.reading.NoFigure.{NoFigure}
use Rattle.figures.specs.declared.reading.NoFigure.TheVariants.{Blank, TooLarge, NotWhole}
use Rattle.row_text.specs.declared.entries.CellFault.{CellFault}
use Rattle.row_text.specs.declared.entries.CellFault.TheVariants.{NumberForBlank, WholeNumber, SixtyFourBits, DifferenceOfSixtyFourBits}
use Rattle.row_text.specs.declared.entries.Entry.{Entry}

-- A cumulated figure adds its difference from the figure before it; another has none before it.
abbrev pub increment : ℤ → Option ℤ → Result Entry CellFault
increment figure (Some difference) = Ok record { amount = difference; figure = figure }
increment figure None = Err DifferenceOfSixtyFourBits

abbrev pub of_figure : ℤ → Option ℤ → Result Entry CellFault
of_figure figure (Some before) = increment figure (exact_of (figure -ℤ before))
of_figure figure None = Ok record { amount = figure; figure = figure }

-- a blank cell is 0 where it is missing
abbrev pub of_blank : Bool → Result Entry CellFault
of_blank true = Ok record { amount = pos 0; figure = pos 0 }
of_blank false = Err NumberForBlank

-- A cell of a row, missing or not, after the figure before it where the figures are cumulated.
abbrev pub entry_of : Result ℤ NoFigure → Bool → Option ℤ → Result Entry CellFault
entry_of (Ok figure) missing before = of_figure figure before
entry_of (Err Blank) missing before = of_blank missing
entry_of (Err TooLarge) missing before = Err SixtyFourBits
entry_of (Err NotWhole) missing before = Err WholeNumber
