-- What a cell of a table holds, byte by byte.
use Rattle.std.specs.Prelude.{Bool, true, false, cond, List, [], ◌∷◌, ℕ, ◌+◌, ◌-◌, ◌*◌, ◌^◌, min, eqb, ℤ, pos, neg_ℤ, Result, Ok, Err}
use Rattle.std.specs.Char.{is_ascii_digit}
use Rattle.std.specs.List.{list_all}
use Prim.Native.Char.{code}
use Rattle.exact_sums.specs.Exact.{fits}
use Rattle.figures.specs.declared.reading.NoFigure.{NoFigure}
use Rattle.figures.specs.declared.reading.NoFigure.TheVariants.{Blank, TooLarge, NotWhole}

abbrev pub zero_digit : ℕ
zero_digit = code "0"

abbrev pub minus_sign : ℕ
minus_sign = code "-"

-- ---- Digits and their value

abbrev pub all_digits : List ℕ → Bool
all_digits text = list_all is_ascii_digit text

-- The value of digits that come after those of a value.
unfoldable pub value_after : ℕ → List ℕ → ℕ
value_after value [] = value
value_after value (digit ∷ digits) = value_after (10 * value + (digit - zero_digit)) digits

abbrev pub value_of : List ℕ → ℕ
value_of digits = value_after 0 digits

-- ---- The figure

-- z, where 64 bits hold it.
unfoldable pub whole_of : ℤ → Result ℤ NoFigure
whole_of z = cond (fits z) (Ok z) (Err TooLarge)

-- The negative number of a size, or the other; −0 is 0.
abbrev pub with_sign : Bool → ℕ → ℤ
with_sign true size = neg_ℤ (pos size)
with_sign false size = pos size

-- One or more digits and nothing else are a whole number, which is negative or not.
unfoldable pub number_of : Bool → List ℕ → Result ℤ NoFigure
number_of negative [] = Err NotWhole
number_of negative (byte ∷ bytes) = cond (all_digits (byte ∷ bytes)) (whole_of (with_sign negative (value_of (byte ∷ bytes)))) (Err NotWhole)

-- A minus sign leads a negative number.
unfoldable pub figure_of : List ℕ → Result ℤ NoFigure
figure_of [] = Err Blank
figure_of (byte ∷ bytes) = cond (eqb byte minus_sign) (number_of true bytes) (number_of false (byte ∷ bytes))

-- ---- The sizes that the code keeps

-- It stands for every larger size too: no number of 64 bits with a sign has it.
abbrev pub greatest_size : ℕ
greatest_size = 2 ^ 64 - 1

-- the size that is kept of a number that is these digits
abbrev pub size_of : List ℕ → Result ℕ NoFigure
size_of [] = Err NotWhole
size_of (byte ∷ bytes) = cond (all_digits (byte ∷ bytes)) (Ok (min (value_of (byte ∷ bytes)) greatest_size)) (Err NotWhole)
