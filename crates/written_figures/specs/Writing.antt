-- Numbers and amounts as text, byte by byte.
use Rattle.std.specs.Prelude.{◌≡◌, cond, List, [], ◌∷◌, ◌++◌, ℕ, zero, suc, ◌+◌, ◌-◌, ◌/◌, ◌%◌, ◌≤◌, ltb, ℤ, pos, negsuc, nat_abs, length, drop, replicate}
use Prim.Native.Char.{code}
use Rattle.figures.specs.Reading.{zero_digit, minus_sign}
use Rattle.written_figures.specs.declared.writing.Written.{Written}

abbrev pub space : ℕ
space = code " "

abbrev pub comma : ℕ
comma = code ","

abbrev pub point : ℕ
point = code "."

-- ---- Digits

-- The last digit of a number, its last three and its last six.
abbrev pub digit : ℕ → ℕ
digit n = zero_digit + n % 10

abbrev pub three_digits : ℕ → List ℕ
three_digits n = digit (n / 100) ∷ digit (n / 10) ∷ digit n ∷ []

abbrev pub six_digits : ℕ → List ℕ
six_digits n = three_digits (n / 1_000) ++ three_digits n

-- A number below 1,000, without zeros before it.
unfoldable pub first_group : ℕ → List ℕ
first_group n = cond (ltb n 10) (digit n ∷ []) (cond (ltb n 100) (digit (n / 10) ∷ digit n ∷ []) (three_digits n))

-- A number in decimal, with a comma before each further group of three digits, of which it has at most as many as are given.
unfoldable pub grouped_in : ℕ → ℕ → List ℕ
grouped_in zero n = first_group n
grouped_in (suc further) n = cond (ltb n 1_000) (first_group n) (grouped_in further (n / 1_000) ++ comma ∷ three_digits n)

-- A number of 64 bits has at most 20 digits: six further groups are enough.
unfoldable pub grouped : ℕ → List ℕ
grouped n = grouped_in 6 n

-- ---- Texts

abbrev pub sign : ℤ → List ℕ
sign (pos n) = []
sign (negsuc n) = minus_sign ∷ []

abbrev pub whole_text : ℤ → List ℕ
whole_text z = sign z ++ grouped (nat_abs z)

abbrev pub amount_text : ℤ → List ℕ
amount_text z = sign z ++ (grouped (nat_abs z / 1_000_000) ++ point ∷ six_digits (nat_abs z))

-- ---- A text in 32 bytes

-- Set to the right, with spaces before it.
abbrev pub padded : List ℕ → List ℕ
padded text = replicate (32 - length text) space ++ text

abbrev pub written : List ℕ → Written
written text = record { bytes = padded text; width = length text }

-- The text without the spaces before it.
abbrev pub figure_text : Written → List ℕ
figure_text w = drop (32 - w.width) w.bytes

-- From what is written to the same with a text set before it, where there is room.
pub record Before (front : List ℕ) (w r : Written) : Type 0 where
  pub together : (text : List ℕ) → w ≡ written text → length (front ++ text) ≤ 32 → r ≡ written (front ++ text)
