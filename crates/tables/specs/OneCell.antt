-- One unseen cell alone, line by line. docs/FORMAT.md has these lines.
use Rattle.std.specs.Prelude.{List, [], ◌∷◌, ◌++◌, ℕ, max, ℤ, length}
use Rattle.figures.specs.Bytes.{bytes}
use Rattle.written_figures.specs.Writing.{amount_text}
use Rattle.printed.specs.Filling.{filled}
use Rattle.printed.specs.Entries.{entry}
use Rattle.completed.specs.declared.places.FutureFigure.{FutureFigure}
use Rattle.completed.specs.declared.places.FutureFigure.TheVariants.{Payment, Adjustment, Outstanding}

abbrev pub cell_title : ℤ → ℤ → List ℕ
cell_title accident_year development_year =
    filled (bytes "Accident year @ in development year @, in units") (accident_year ∷ development_year ∷ [])

-- The width of the widest of the three figures, in millionths.
unfoldable pub cell_column : ℤ → ℤ → ℤ → ℕ
cell_column payment adjustment outstanding =
    max (max (length (amount_text payment)) (length (amount_text adjustment))) (length (amount_text outstanding))

abbrev pub figure_name : FutureFigure → List ℕ
figure_name Payment = bytes "    payment"
figure_name Adjustment = bytes " adjustment"
figure_name Outstanding = bytes "outstanding"

-- A figure after its name, in millionths.
unfoldable pub cell_line : FutureFigure → ℤ → ℕ → List ℕ
cell_line figure millionths column = figure_name figure ++ entry column (amount_text millionths)
