-- Worked examples: what is printed of some refusals. docs/FORMAT.md has the first three lines.
-- The statements are proved in proofs/Examples.antt by computing them.
use Rattle.std.specs.Prelude.{◌≡◌, true, false, List, [], ◌∷◌, pos, neg_ℤ, replicate, Option, Some}
use Rattle.printed.specs.WorkedLines.{Printed, ◌shows◌, all_of}
use Rattle.method.specs.Triangle.{Triangle}
use Rattle.verdicts.specs.declared.verdict.Place.{Place}
use Rattle.refusals.specs.Sentences.{refused_line, sentence, see_line, see_lines}
use Rattle.refusals.specs.Found.{lent_of}
use Rattle.refusals.specs.declared.found.Lent.{Lent}
use Rattle.refusals.specs.declared.found.Found.{Found}

-- a cell that was asked for
abbrev pub asked : Option Place
asked = Some (record { accident_year = pos 3; development_year = pos 1 })

-- three accident years and a cut of 2, with an adjustment too few
abbrev pub lent : Lent
lent = record {
  years = pos 3;
  cut = pos 2;
  asked = asked;
  payments = 6;
  adjustments = 5;
  weights = 3;
  openings = 1;
}

-- a triangle of which that is said
abbrev pub triangle : Triangle
triangle = record {
  years = pos 3;
  cut = pos 2;
  payments = replicate 6 (pos 0);
  adjustments = replicate 5 (pos 0);
  weights = replicate 3 (pos 0);
  openings = replicate 1 (pos 0);
}

-- paid exceeds reported by 120, and the payment is wrong too
abbrev pub found : Found
found = record {
  weight = pos 101;
  payment = pos 1_000_000_001;
  adjustment = neg_ℤ (pos 7);
  outstanding = neg_ℤ (pos 120);
  payment_right = false;
  opening = false;
}

-- the same, where the payment is right and the outstanding an opening
abbrev pub opened : Found
opened = record {
  weight = pos 101;
  payment = pos 0;
  adjustment = neg_ℤ (pos 7);
  outstanding = neg_ℤ (pos 120);
  payment_right = true;
  opening = true;
}

abbrev pub refusals : List Printed
refusals =
    refused_line 6 (pos 2) (pos 1) shows "refused by question 6 at (2, 1)"
    ∷ sentence 6 (pos 2) (pos 1) lent found shows "The outstanding of accident year 2 at the end of development year 1 is -120: paid exceeds reported by 120 there."
    ∷ see_lines 4 8 shows "See lines 4 and 8."
    ∷ sentence 2 (pos 0) (pos 0) lent found shows "The cut is 2 and not from 1 to 2, which is one less than the number of accident years."
    ∷ sentence 3 (pos 0) (pos 0) lent found shows "A block does not have its number of figures: payments 6 of 6, adjustments 5 of 6, weights 3 of 3, openings 1 of 1."
    ∷ sentence 5 (pos 2) (pos 1) lent found shows "The payment of accident year 2 in development year 1 is 1,000,000,001 and not from -1,000,000,000 to 1,000,000,000."
    ∷ sentence 5 (pos 2) (pos 1) lent opened shows "The adjustment of accident year 2 in development year 1 is -7 and not 0, though the cell is missing: its years add up to no more than the cut."
    ∷ sentence 6 (pos 2) (pos 1) lent opened shows "The opening outstanding of accident year 2, at the end of development year 1, is -120 and not from 0 to 1,000,000,000."
    ∷ sentence 8 (pos 0) (pos 2) lent found shows "The exposure of development year 2 is not above 0: its weighted outstandings give nothing to project from year 2 to year 3."
    ∷ sentence 10 (pos 0) (pos 0) lent found shows "Accident year 3 in development year 1 is not an unseen cell of this triangle."
    ∷ see_line 1_204 shows "See line 1,204."
    ∷ []

abbrev pub RefusalsHold : Type 0
RefusalsHold = all_of refusals

abbrev pub LentHolds : Type 0
LentHolds = lent_of triangle asked ≡ lent
