-- What the code's verdict says, in the papers' numbers and places.
use Rattle.std.specs.Prelude.{ℕ, Result, Ok, Err}
use Rattle.method.specs.Verdicts as meaning
use Rattle.verdicts.specs.declared.verdict.Place.{Place}
use Rattle.verdicts.specs.declared.verdict.Refusal.{Refusal}
use Rattle.verdicts.specs.declared.verdict.Question.{Question}
use Rattle.verdicts.specs.declared.verdict.Question.TheVariants.{Years, Cut, Lengths, WeightInRange, AmountRight, OutstandingInRange, WeightAllowed, Exposure, ProjectedFigure, YearsAsked, KindKnown, NumberWhole, BlankWhereMissing}

abbrev pub number_of : Question → ℕ
number_of Years = 1
number_of Cut = 2
number_of Lengths = 3
number_of WeightInRange = 4
number_of AmountRight = 5
number_of OutstandingInRange = 6
number_of WeightAllowed = 7
number_of Exposure = 8
number_of ProjectedFigure = 9
number_of YearsAsked = 10
number_of KindKnown = 11
number_of NumberWhole = 12
number_of BlankWhereMissing = 13

abbrev pub place_of : Place → meaning.Place
place_of p = record { accident_year = p.accident_year; development_year = p.development_year }

abbrev pub refused_by : Refusal → meaning.Verdict
refused_by r = meaning.refused (number_of r.question) (place_of r.place)

-- accepted, with whatever is answered then, or refused
abbrev pub verdict_of : {A : Type 0} → Result A Refusal → meaning.Verdict
verdict_of (Ok _) = meaning.accepted
verdict_of (Err r) = refused_by r
