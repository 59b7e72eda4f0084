-- How long numbers, templates and entries can be, whatever the numbers are.
use mathlib.Core.Path.{◌≡◌, ◌∙◌}
use mathlib.Core.Bool.{Bool, true, false, cond}
use mathlib.Core.List.{List, [], ◌∷◌, ◌++◌}
use Prim.Native.Nat.{ℕ, zero, suc, ◌+◌, ◌-◌, ◌*◌, ◌/◌, ◌^◌, ◌≤◌, ◌<◌, min, max}
use native.Mathlib.Nat.{suc-mul}
use native.Mathlib.Omega.{arith}
use borrow.Author.Tests.{leb-true, lt-ltb}
use lib.Dec.{leb, eqb}
use lib.IntN.{ℤ, pos, negsuc, nat_abs}
use lib.ListN.{length, get_or, drop, replicate, length-append, length-replicate}
use Rattle.written_figures.specs.Writing.{space, six_digits, point, grouped_in, grouped, whole_text, amount_text}
use Rattle.written_figures.proofs.GroupedDigits.{first_group_length, grouped_in_length}
use Rattle.printed.specs.declared.line.Line.{Line}
use Rattle.printed.specs.Line.{text_of, LineIs}
use Rattle.printed.specs.Filling.{place, filled, places}
use Rattle.printed.specs.Counts.{as_number}
use Rattle.printed.specs.Entries.{set_right, entry, count_text, entries_after}
use Rattle.printed.proofs.LineTexts.{fitted_whole}

-- ---- Numbers

pub one_of_two : {X : Type 0} (size : X → ℕ) (most : ℕ) (b : Bool) (x y : X) → size x ≤ most → size y ≤ most → size (cond b x y) ≤ most
one_of_two size most true x y h k = h
one_of_two size most false x y h k = k

pub number_length : (z : ℤ) → length (whole_text z) ≤ 28
unfolding grouped
number_length (pos n) = omega (arith, grouped_in_length 6 n)
number_length (negsuc n) = omega (arith, grouped_in_length 6 (nat_abs (negsuc n)))

pub amount_length : (z : ℤ) → length (amount_text z) ≤ 35
unfolding grouped
amount_length (pos n) =
    omega (arith, grouped_in_length 6 (n / 1_000_000), length-append (grouped_in 6 (n / 1_000_000)) (point ∷ six_digits n))
amount_length (negsuc n) =
    let size = nat_abs (negsuc n) in
    omega (arith, grouped_in_length 6 (size / 1_000_000), length-append (grouped_in 6 (size / 1_000_000)) (point ∷ six_digits size))

-- a number below 1,000
short_number_length : (n : ℕ) → n < 1_000 → length (whole_text (pos n)) ≤ 3
unfolding grouped grouped_in
short_number_length n below = rw (lt-ltb n 1_000 below) (first_group_length n)

-- ---- Templates

filled_length : (template : List ℕ) (numbers : List ℤ) → length (filled template numbers) ≤ length template + 28 * places template
unfolding filled places
filled_length [] numbers = omega arith
filled_length (byte ∷ template) numbers = go (eqb byte place) (λ others. filled_length template others)
  where
    number : ℤ
    number = get_or numbers 0 (pos 0)

    go : (b : Bool) → ((others : List ℤ) → length (filled template others) ≤ length template + 28 * places template)
        → length (cond b (whole_text number) (byte ∷ []) ++ filled template (cond b (drop 1 numbers) numbers)) ≤ suc (length template) + 28 * (cond b 1 0 + places template)
    go true rest =
        omega (arith, length-append (whole_text number) (filled template (drop 1 numbers)), number_length number, rest (drop 1 numbers))
    go false rest = omega (arith, rest numbers)

-- a template that has room with the longest numbers has room with all
pub filled_fits : (most : ℕ) (template : List ℕ) (numbers : List ℤ) → leb (length template + 28 * places template) most ≡ true
    → length (filled template numbers) ≤ most
filled_fits most template numbers e = omega (arith, filled_length template numbers, leb-true (length template + 28 * places template) most e)

-- So a line that is a text with room for it is the whole of it; the line's end is one byte more.
pub whole_line : {r : Line} (text : List ℕ) → length text ≤ 512 → LineIs text r → text_of r ≡ text
whole_line text h line = line.is ∙ fitted_whole text h

-- ---- Entries

pub set_right_length : (column : ℕ) (text : List ℕ) → length (set_right column text) ≡ max column (length text)
set_right_length column text =
    omega (arith, length-append (replicate (column - length text) space) text, length-replicate (column - length text) space)

pub entry_length : (column : ℕ) (text : List ℕ) → length (entry column text) ≡ max column (length text) + 2
entry_length column text = omega (arith, set_right_length column text)

pub short_count_length : (count : ℕ) → count < 1_000 → length (count_text count) ≤ 3
short_count_length count below = short_number_length (min count (2 ^ 63 - 1)) (omega arith)

pub count_length : (count : ℕ) → length (count_text count) ≤ 28
count_length count = number_length (as_number count)

pub entries_length : (text : ℕ → List ℕ) (column most k left : ℕ) → column ≤ most → ((at : ℕ) → k < at → at ≤ k + left → length (text at) ≤ most)
    → length (entries_after text column k left) ≤ left * (most + 2)
unfolding entries_after
entries_length text column most k zero narrow each = omega arith
entries_length text column most k (suc left) narrow each =
    omega (
      arith,
      length-append (entry column (text (suc k))) (entries_after text column (suc k) left),
      entry_length column (text (suc k)),
      each (suc k) (omega arith) (omega arith),
      suc-mul left (most + 2),
      entries_length text column most (suc k) left narrow (λ at from to. each at (omega arith) (omega arith)),
    )
