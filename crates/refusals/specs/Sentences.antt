-- What is printed of a refusal by a question. docs/FORMAT.md has the table of these sentences.
use Rattle.std.specs.Prelude.{Bool, true, false, cond, List, [], ◌∷◌, ℕ, eqb, ℤ, pos, neg_ℤ, ◌+ℤ◌, ◌-ℤ◌, Option}
use Rattle.std.specs.Int.Signed.{lt_z}
use Rattle.std.specs.Option.{unwrap_or}
use Rattle.figures.specs.Bytes.{bytes}
use Rattle.exact_sums.specs.Exact.{exact_of}
use Rattle.method.specs.Limits.{greatest_amount}
use Rattle.method.specs.Tests.{from_to}
use Rattle.completed.specs.Completed.{number_or_0}
use Rattle.method.specs.Triangle.{amounts_length, weights_length, openings_length}
use Rattle.refusals.specs.Counts.{count_of}
use Rattle.printed.specs.Counts.{as_number}
use Rattle.printed.specs.Filling.{filled}
use Rattle.verdicts.specs.declared.verdict.Place.{Place}
use Rattle.refusals.specs.declared.found.Lent.{Lent}
use Rattle.refusals.specs.declared.found.Found.{Found}
use Rattle.refusals.specs.declared.lines.InText.{InText}
use Rattle.refusals.specs.declared.lines.InText.TheVariants.{Nowhere, PaymentsRow, AdjustmentsRow, BothRows, WeightsRow, OpeningsHeading}

-- a number that follows from another, or 0 where it has more than 64 bits
abbrev pub exact_or_0 : ℤ → ℤ
exact_or_0 number = number_or_0 (exact_of number)

-- ---- The question and its place

unfoldable pub refused_line : ℕ → ℤ → ℤ → List ℕ
refused_line question i k = filled (bytes "refused by question @ at (@, @)") (pos question ∷ i ∷ k ∷ [])

-- ---- Of what was lent as a whole

unfoldable pub years_sentence : ℤ → List ℕ
years_sentence years =
    filled (bytes "The number of accident years is @ and not from 2 to 32: it is the number of rows of payments.") (years ∷ [])

unfoldable pub cut_sentence : ℤ → ℤ → List ℕ
cut_sentence cut years =
    filled (bytes "The cut is @ and not from 1 to @, which is one less than the number of accident years.")
    (cut ∷ exact_or_0 (years -ℤ pos 1) ∷ [])

-- The length of each list, and the length that question 3 wants for n years and the cut Y.
unfoldable pub lengths_sentence : Lent → List ℕ
lengths_sentence lent =
    let n : ℕ = count_of lent.years in
    let Y : ℕ = count_of lent.cut in
    filled (bytes "A block does not have its number of figures: payments @ of @, adjustments @ of @, weights @ of @, openings @ of @.")
    (as_number lent.payments ∷ as_number (amounts_length n)
    ∷ as_number lent.adjustments ∷ as_number (amounts_length n)
    ∷ as_number lent.weights ∷ as_number (weights_length n)
    ∷ as_number lent.openings ∷ as_number (openings_length Y) ∷ [])

-- ---- At the place (i, k), where x is the number that is wrong

unfoldable pub weight_sentence : ℤ → ℤ → ℤ → List ℕ
weight_sentence i k x =
    filled (bytes "The weight of accident year @ in development year @ is @ and not from 0 to 100.") (i ∷ k ∷ x ∷ [])

unfoldable pub weight_not_0_sentence : ℤ → ℤ → ℤ → List ℕ
weight_not_0_sentence i k x =
    filled (bytes "The weight of accident year @ in development year @ is @ and not 0, though its years add up to no more than the cut.")
    (i ∷ k ∷ x ∷ [])

-- An amount within the limit is wrong only where its cell is missing. It has a sentence for that, and one for an amount beyond the limit.
unfoldable pub amount_sentence : ℤ → ℤ → ℤ → List ℕ → List ℕ → List ℕ
amount_sentence i k x missing beyond = filled (cond (from_to (neg_ℤ greatest_amount) greatest_amount x) missing beyond) (i ∷ k ∷ x ∷ [])

unfoldable pub opening_sentence : ℤ → ℤ → ℤ → List ℕ
opening_sentence i k x =
    filled (bytes "The opening outstanding of accident year @, at the end of development year @, is @ and not from 0 to 1,000,000,000.")
    (i ∷ k ∷ x ∷ [])

unfoldable pub outstanding_sentence : ℤ → ℤ → ℤ → List ℕ
outstanding_sentence i k x =
    cond (lt_z x (pos 0))
    (filled (bytes "The outstanding of accident year @ at the end of development year @ is @: paid exceeds reported by @ there.") (i ∷ k ∷ x ∷ exact_or_0 (pos 0 -ℤ x) ∷ []))
    (filled (bytes "The outstanding of accident year @ at the end of development year @ is @ and not from 0 to 1,000,000,000.") (i ∷ k ∷ x ∷ []))

unfoldable pub exposure_sentence : ℤ → List ℕ
exposure_sentence k =
    filled (bytes "The exposure of development year @ is not above 0: its weighted outstandings give nothing to project from year @ to year @.")
    (k ∷ k ∷ exact_or_0 (k +ℤ pos 1) ∷ [])

unfoldable pub projected_sentence : ℤ → ℤ → List ℕ
projected_sentence i k =
    filled (bytes "The payment, adjustment or outstanding projected for accident year @ in development year @ is above 10,000,000,000 units in size.")
    (i ∷ k ∷ [])

-- Here i and k are the years that were asked for.
unfoldable pub seen_cell_sentence : ℤ → ℤ → List ℕ
seen_cell_sentence i k = filled (bytes "Accident year @ in development year @ is not an unseen cell of this triangle.") (i ∷ k ∷ [])

-- of the cell that was asked for, or of years 0 where none was
abbrev pub asked_sentence : Option Place → List ℕ
asked_sentence asked =
    let place : Place = unwrap_or asked (record { accident_year = pos 0; development_year = pos 0 }) in
    seen_cell_sentence place.accident_year place.development_year

-- ---- The sentence of a question at its place, and where the text has what is wrong

-- Question 5 asks every payment before the first adjustment.
unfoldable pub amounts_sentence : ℤ → ℤ → Found → List ℕ
amounts_sentence i k found =
    cond found.payment_right
    (amount_sentence i k found.adjustment
    (bytes "The adjustment of accident year @ in development year @ is @ and not 0, though the cell is missing: its years add up to no more than the cut.")
    (bytes "The adjustment of accident year @ in development year @ is @ and not from -1,000,000,000 to 1,000,000,000."))
    (amount_sentence i k found.payment
    (bytes "The payment of accident year @ in development year @ is @ and not 0, though the cell is missing: its years add up to no more than the cut.")
    (bytes "The payment of accident year @ in development year @ is @ and not from -1,000,000,000 to 1,000,000,000."))

unfoldable pub observed_sentence : ℤ → ℤ → Found → List ℕ
observed_sentence i k found =
    cond found.opening (opening_sentence i k found.outstanding) (outstanding_sentence i k found.outstanding)

-- A number that no question has, as 0 or 14, has question 10's sentence.
unfoldable pub sentence : ℕ → ℤ → ℤ → Lent → Found → List ℕ
sentence question i k lent found =
    cond (eqb question 1) (years_sentence lent.years)
    (cond (eqb question 2) (cut_sentence lent.cut lent.years)
    (cond (eqb question 3) (lengths_sentence lent)
    (cond (eqb question 4) (weight_sentence i k found.weight)
    (cond (eqb question 5) (amounts_sentence i k found)
    (cond (eqb question 6) (observed_sentence i k found)
    (cond (eqb question 7) (weight_not_0_sentence i k found.weight)
    (cond (eqb question 8) (exposure_sentence k)
    (cond (eqb question 9) (projected_sentence i k)
    (asked_sentence lent.asked)))))))))

abbrev pub amounts_in_text : Bool → InText
amounts_in_text true = AdjustmentsRow
amounts_in_text false = PaymentsRow

abbrev pub observed_in_text : Bool → InText
observed_in_text true = OpeningsHeading
observed_in_text false = BothRows

unfoldable pub in_text : ℕ → Found → InText
in_text question found =
    cond (eqb question 4) WeightsRow
    (cond (eqb question 5) (amounts_in_text found.payment_right)
    (cond (eqb question 6) (observed_in_text found.opening)
    (cond (eqb question 7) WeightsRow Nowhere)))

unfoldable pub see_line : ℕ → List ℕ
see_line line = filled (bytes "See line @.") (as_number line ∷ [])

unfoldable pub see_lines : ℕ → ℕ → List ℕ
see_lines first second = filled (bytes "See lines @ and @.") (as_number first ∷ as_number second ∷ [])
