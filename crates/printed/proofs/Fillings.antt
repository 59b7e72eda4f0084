-- A template filled byte by byte.
use mathlib.Core.Path.{◌≡◌, refl, sym, ap, ◌∙◌}
use mathlib.Core.List.{List, [], ◌∷◌}
use Prim.Native.Nat.{ℕ, ◌+◌, ◌≤◌, ◌<◌}
use native.Mathlib.Numerals.{add-one}
use native.Mathlib.Omega.{arith}
use borrow.Author.Tests.{ne_eqb}
use lib.IntN.{ℤ, pos}
use Rattle.std.proofs.Common.{Iter, Option, Some, None}
use denote.Bor.{Bor}
use Rattle.std.specs.Option.{MatchOption, unwrap_or, option_copied}
use lib.ListN.{length, get_or, drop, drop_of_length-le, get_or-eq_default}
use lib.Seq.{drop-cons}
use Rattle.written_figures.specs.Writing.{whole_text}
use Rattle.printed.specs.declared.line.Line.{Line}
use Rattle.printed.specs.Line.{After}
use Rattle.printed.specs.Filling.{place, filled}
use Rattle.printed.proofs.LineTexts.{both_after}

none_dropped : (numbers : List ℤ) → length numbers ≡ 0 → drop 1 numbers ≡ numbers
none_dropped [] none = refl
none_dropped (number ∷ numbers) none = absurd (omega arith)

-- the next of the numbers that are left, 0 where there is none
pub number_taken : (before after : Iter ℤ) (taken : Option (Bor ℤ))
    → MatchOption taken ((length before.rest.now ≡ 0) × (after ≡ before)) (λ number. before.rest.now ≡ number.now ∷ after.rest.now)
    → (unwrap_or (option_copied taken) (pos 0) ≡ get_or before.rest.now 0 (pos 0)) × (after.rest.now ≡ drop 1 before.rest.now)
number_taken before after None step =
    (sym (get_or-eq_default before.rest.now (pos 0) (omega (arith, step.0))), ap (λ (i : Iter ℤ). i.rest.now) step.1 ∙ sym (none_dropped before.rest.now step.0))
number_taken before after (Some number) step = (rw step refl, rw step refl)

module _ (template : List ℕ) (numbers : List ℤ) (at : ℕ) where
  -- by whether the byte here holds a place
  pub place_filled : {line further r : Line} {others : List ℤ} → at < length template → get_or template at 0 ≡ place → others ≡ drop 1 numbers
      → After line (whole_text (get_or numbers 0 (pos 0))) further → After further (filled (drop (at + 1) template) others) r
      → After line (filled (drop at template) numbers) r
  unfolding filled
  place_filled within here is first second = rw (drop-cons template at 0 within, here) (rw (is, add-one at) at (both_after first second))

  pub byte_kept : {line further r : Line} → at < length template → (get_or template at 0 ≡ place → ⊥)
      → After line (get_or template at 0 ∷ []) further → After further (filled (drop (at + 1) template) numbers) r
      → After line (filled (drop at template) numbers) r
  unfolding filled
  byte_kept within other first second = rw (drop-cons template at 0 within, ne_eqb (get_or template at 0) place other) (rw (add-one at) at (both_after first second))

  pub nothing_left : {line : Line} → length template ≤ at → After line [] line → After line (filled (drop at template) numbers) line
  unfolding filled
  nothing_left ended after = rw (drop_of_length-le template ended) after
