-- The length of a text, the bytes that part it, and letters.
use Rattle.std.specs.Prelude.{Bool, ℕ}
use Rattle.std.specs.Char.{to_ascii_lowercase, is_ascii_alphabetic}
use Prim.Native.Char.{code}

-- The most bytes that a text of a program has.
abbrev pub longest_text : ℕ
longest_text = 65_536

abbrev pub tab : ℕ
tab = 9

abbrev pub line_feed : ℕ
line_feed = 10

abbrev pub carriage_return : ℕ
carriage_return = 13

abbrev pub space : ℕ
space = code " "

abbrev pub number_sign : ℕ
number_sign = code "#"

abbrev pub double_quote : ℕ
double_quote = 34

abbrev pub comma : ℕ
comma = code ","

abbrev pub semicolon : ℕ
semicolon = code ";"

-- The small letter of a capital one; every other byte as it is.
abbrev pub small : ℕ → ℕ
small byte = to_ascii_lowercase byte

abbrev pub is_letter : ℕ → Bool
is_letter byte = is_ascii_alphabetic byte
