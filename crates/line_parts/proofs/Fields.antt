-- A text from one of its fields on, where fields are passed one by one.
use mathlib.Core.Path.{◌≡◌}
use mathlib.Core.List.{List}
use Prim.Native.Nat.{ℕ, suc}
use Rattle.line_parts.specs.Cells.{after_cell, from_field}

pub next_field : (separator left later : ℕ) (text : List ℕ) → left ≡ suc later
    → from_field separator later (after_cell separator text) ≡ from_field separator left text
unfolding from_field
next_field separator left later text one_less = rw one_less
