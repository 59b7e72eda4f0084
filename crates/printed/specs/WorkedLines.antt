-- How worked examples compare texts with what is printed.
use Rattle.std.specs.Prelude.{◌≡◌, List, map, ℕ}
use Prim.Native.String.{String}
use Rattle.figures.specs.Bytes.{bytes}

pub record Printed : Type 0 where
  pub text : List ℕ
  pub shown : String

infix 70 ◌shows◌
abbrev pub ◌shows◌ : List ℕ → String → Printed
text shows shown = record { text = text; shown = shown }

abbrev pub all_of : List Printed → Type 0
all_of table = map (λ (p : Printed). p.text) table ≡ map (λ (p : Printed). bytes p.shown) table
