-- The test whether two kinds are equal is that of their numbers.
use mathlib.Core.Path.{◌≡◌, refl, ap₂}
use lib.Dec.{eqb}
use denote.Enum.Bare.{sameb}
use denote.Enum.Declared.{tag_of}
use Rattle.line_kinds.specs.Kinds.{number_of, same_kind}
use Rattle.line_kinds.specs.declared.kinds.LineKind.{LineKind}
use Rattle.line_kinds.specs.declared.kinds.LineKind.TheVariants.{Blank, Separators, Payments, Adjustments, Weights, Openings, Cut, Cell, Row, Unknown}
use Rattle.line_kinds.specs.contracts.kinds.LineKind.{the_type}

number_is_place : (kind : LineKind) → tag_of the_type kind ≡ number_of kind
number_is_place Blank = refl
number_is_place Separators = refl
number_is_place Payments = refl
number_is_place Adjustments = refl
number_is_place Weights = refl
number_is_place Openings = refl
number_is_place Cut = refl
number_is_place Cell = refl
number_is_place Row = refl
number_is_place Unknown = refl

pub same_by_number : (kind other : LineKind) → sameb the_type kind other ≡ same_kind kind other
same_by_number kind other = ap₂ eqb (number_is_place kind) (number_is_place other)
