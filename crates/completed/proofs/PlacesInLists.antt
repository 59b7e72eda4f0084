-- Where the figures of a cell and of an accident year stand in their lists, as the code counts the places.
use mathlib.Core.Path.{◌≡◌, refl, ap, ◌∙◌}
use mathlib.Core.List.{List}
use Prim.Native.Nat.{ℕ, suc, ◌+◌, ◌*◌, ◌-◌, ◌<◌}
use native.Mathlib.Omega.{arith}
use lib.IntN.{ℤ, pos}
use lib.ListN.{get_or}
use Rattle.method.specs.Triangle.{cells_before, cell, future_length}
use Rattle.method.specs.AnswerPlaces.{unseen_before, cell_figure}
use Rattle.method.proofs.Positions.{cell_of_place, unseen_cells}
use Rattle.completed.specs.Square.{CellOfSquare}

module _ {n i k : ℕ} (h : CellOfSquare n i k) where
  year_after : suc (i - 1) ≡ i
  year_after = omega (arith, h.first)

  pub cell_at_place : (list : List ℤ) → get_or list (cells_before n (i - 1) + (k - 1)) (pos 0) ≡ cell (pos 0) n list i k
  cell_at_place list =
      cell_of_place (pos 0) n list (i - 1) k (cells_before n (i - 1) + (k - 1)) h.first_year refl ∙ ap (λ year. cell (pos 0) n list year k) year_after

  module _ (unseen : n + 1 < i + k) (figure : ℕ) where
    future_place : future_length (i - 1) + 3 * (i + k - n - 2) + figure ≡ 3 * (unseen_before i + (i + (k - 1) - suc n)) + figure
    future_place = omega (arith, unseen_cells (i - 1), ap unseen_before year_after, h.first_year)

    pub future_figure_at_place : (future : List ℤ)
        → get_or future (future_length (i - 1) + 3 * (i + k - n - 2) + figure) (pos 0) ≡ cell_figure n future figure i (k - 1)
    unfolding cell_figure
    future_figure_at_place future = ap (λ place. get_or future place (pos 0)) future_place
