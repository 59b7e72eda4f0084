-- The value of digits that is kept up to a limit, and the number of a size and a sign.
use mathlib.Core.Path.{◌≡◌, refl, sym, ap, ◌∙◌}
use mathlib.Core.Bool.{Bool, true, false}
use mathlib.Core.List.{List, [], ◌∷◌}
use Prim.Native.Nat.{ℕ, ◌+◌, ◌-◌, ◌*◌, ◌≤◌, ◌<◌, min}
use native.Mathlib.Nat.{min-eq_left}
use native.Mathlib.Decide.{dec_le}
use native.Mathlib.Omega.{arith}
use lib.IntN.{ℤ, pos, neg_ℤ, ◌+ℤ◌, ◌-ℤ◌}
use mir.Syntax.{w64}
use mir.Val.{SFits}
use Rattle.std.specs.List.{fold}
use Rattle.integers.proofs.RingSolver.{con, ◌:-◌, ◌:+◌, neg}
use Rattle.integers.proofs.LinearFacts.{≡-by, integers, parts}
use Rattle.integers.proofs.Difference.{fits→parts}
use Rattle.exact_sums.specs.Exact.{fits, exact_of}
use Rattle.exact_sums.proofs.Fits.{fits_no, exact_by}
use Rattle.figures.specs.Reading.{zero_digit, greatest_size, all_digits, value_after, value_of, with_sign, whole_of, number_of, size_of}
use Rattle.figures.specs.declared.reading.NoFigure.{NoFigure}
use Rattle.figures.specs.declared.reading.NoFigure.TheVariants.{TooLarge, NotWhole}
use Rattle.std.specs.Prelude.{Err, Ok, Option, Some, None, cond, length}
use Rattle.std.specs.Option.{SomeIff, ok_or}

-- ---- Values that are kept up to a limit

abbrev pub kept : ℕ → ℕ
kept size = min size greatest_size

-- a size and one digit more
abbrev pub one_digit_more : ℕ → ℕ → ℕ
one_digit_more size digit = kept (kept (size * 10) + (digit - zero_digit))

kept_more : (size digit : ℕ) → one_digit_more (kept size) digit ≡ kept (10 * size + (digit - zero_digit))
kept_more size digit = omega arith

pub fold_is_value : (size : ℕ) (digits : List ℕ) → fold one_digit_more (kept size) digits ≡ kept (value_after size digits)
unfolding value_after
fold_is_value size [] = refl
fold_is_value size (digit ∷ digits) =
    ap (λ x. fold one_digit_more x digits) (kept_more size digit)
    ∙ fold_is_value (10 * size + (digit - zero_digit)) digits

-- ---- The number of a size and a sign

-- no number of 64 bits has such a size
too_large : (negative : Bool) (size : ℕ) → greatest_size ≤ size → whole_of (with_sign negative size) ≡ Err TooLarge
unfolding whole_of
too_large true size h = rw (fits_no (neg_ℤ (pos size)) (λ f. omega (arith, integers, fits→parts f, parts (neg (con (pos size))))))
too_large false size h = rw (fits_no (pos size) (λ f. omega (arith, integers, fits→parts f)))

kept_whole : (negative : Bool) (size : ℕ) → whole_of (with_sign negative (kept size)) ≡ whole_of (with_sign negative size)
kept_whole negative size = go (dec_le size greatest_size)
  where
    go : Dec (size ≤ greatest_size) → whole_of (with_sign negative (kept size)) ≡ whole_of (with_sign negative size)
    go (yes l) = ap (λ x. whole_of (with_sign negative x)) (min-eq_left l)
    go (no l) = too_large negative (kept size) (omega arith) ∙ sym (too_large negative size (omega arith))

-- ---- The size that is kept of digits

pub no_digits : (text : List ℕ) → length text ≡ 0 → Err NotWhole ≡ size_of text
no_digits [] h = refl
no_digits (byte ∷ text) h = absurd (omega arith)

pub other_bytes : (text : List ℕ) → all_digits text ≡ false → Err NotWhole ≡ size_of text
other_bytes [] h = refl
other_bytes (byte ∷ text) h = rw h

pub only_digits : (text : List ℕ) → 0 < length text → all_digits text ≡ true → Ok (kept (value_of text)) ≡ size_of text
only_digits [] l h = absurd (omega arith)
only_digits (byte ∷ text) l h = rw h

-- ---- The number of these digits

ok_or_is_whole : (z : ℤ) → ok_or (exact_of z) TooLarge ≡ whole_of z
unfolding exact_of whole_of
ok_or_is_whole z = go (fits z)
  where
    go : (b : Bool) → ok_or (cond b (Some z) None) TooLarge ≡ cond b (Ok z) (Err TooLarge)
    go true = refl
    go false = refl

module _ (negative : Bool) where
  pub no_size : (text : List ℕ) {fault : NoFigure} → size_of text ≡ Err fault → Err fault ≡ number_of negative text
  unfolding number_of
  no_size [] {fault} e = let same : NotWhole ≡ fault = cc in rw same
  no_size (byte ∷ text) {fault} e = go (all_digits (byte ∷ text)) e
    where
      go : (digits : Bool) → cond digits (Ok (kept (value_of (byte ∷ text)))) (Err NotWhole) ≡ Err fault
          → Err fault ≡ cond digits (whole_of (with_sign negative (value_of (byte ∷ text)))) (Err NotWhole)
      go true e = cc
      go false e = let same : NotWhole ≡ fault = cc in rw same

  number_of_size : (text : List ℕ) {size : ℕ} → size_of text ≡ Ok size → {number : Option ℤ} → number ≡ exact_of (with_sign negative size)
      → ok_or number TooLarge ≡ number_of negative text
  unfolding number_of
  number_of_size [] e is = cc
  number_of_size (byte ∷ text) {size} e {number} is = go (all_digits (byte ∷ text)) e
    where
      go : (digits : Bool) → cond digits (Ok (kept (value_of (byte ∷ text)))) (Err NotWhole) ≡ Ok size
          → ok_or number TooLarge ≡ cond digits (whole_of (with_sign negative (value_of (byte ∷ text)))) (Err NotWhole)
      go true e =
          let same : size ≡ kept (value_of (byte ∷ text)) = cc in
          ap (λ number. ok_or number TooLarge) is
          ∙ ok_or_is_whole (with_sign negative size)
          ∙ ap (λ size. whole_of (with_sign negative size)) same
          ∙ kept_whole negative (value_of (byte ∷ text))
      go false e = cc

-- ---- The library's sum of 0 and a size, and its difference

module _ (text : List ℕ) (o : Option ℤ) (size : ℕ) where
  pub from_zero : size_of text ≡ Ok size → SomeIff o (SFits w64 (pos 0 +ℤ pos size)) (pos 0 +ℤ pos size) → ok_or o TooLarge ≡ number_of false text
  from_zero e h = number_of_size false text e (exact_by o _ h ∙ ap exact_of (≡-by (con (pos 0) :+ con (pos size)) (con (pos size)) (omega arith)))

  pub below_zero : size_of text ≡ Ok size → SomeIff o (SFits w64 (pos 0 -ℤ pos size)) (pos 0 -ℤ pos size) → ok_or o TooLarge ≡ number_of true text
  below_zero e h = number_of_size true text e (exact_by o _ h ∙ ap exact_of (≡-by (con (pos 0) :- con (pos size)) (neg (con (pos size))) (omega arith)))
