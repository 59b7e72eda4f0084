-- Worked examples: what is met at a line and a cell of some texts.
-- The statement is proved in proofs/Examples.antt by computing it.
use Rattle.std.specs.Prelude.{List, [], ◌∷◌}
use Rattle.figures.specs.Bytes.{bytes}
use Rattle.printed.specs.WorkedLines.{Printed, ◌shows◌, all_of}
use Rattle.met_text.specs.Met.{met_at}

-- A thousands comma in quotes is no separator, and a quote that is not closed is a part of its cell.
abbrev pub met : List Printed
met =
    met_at 1 0 (bytes " paid   # note") shows "paid"
    ∷ met_at 1 2 (bytes "40, 50 ,60") shows "50"
    ∷ met_at 1 4 (bytes "40,50,60") shows ""
    ∷ met_at 1 1 (bytes " \"1,000\" ,60") shows "\"1,000\""
    ∷ met_at 1 2 (bytes "60,\"1,000\"") shows "\"1,000\""
    ∷ met_at 1 1 (bytes "\"1,000") shows "\"1"
    ∷ met_at 1 1 (bytes "1\",\"2") shows "1\""
    ∷ []

abbrev pub MetHolds : Type 0
MetHolds = all_of met
