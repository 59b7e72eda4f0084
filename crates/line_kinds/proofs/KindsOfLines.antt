-- How a heading begins.
use mathlib.Core.Path.{◌≡◌, refl, sym, ap, ◌∙◌}
use mathlib.Core.Bool.{true, false, and-true}
use mathlib.Core.List.{List, [], ◌∷◌}
use Prim.Native.Nat.{ℕ, ◌+◌}
use lib.Dec.{eqb}
use lib.ListN.{length, take, drop}
use lib.Pointwise.{pointwise}
use Rattle.std.proofs.Common.{Bor}
use Rattle.std.specs.Prelude.{Option, None, Some}
use Rattle.std.specs.Option.{MatchOption, unwrap_or}
use Rattle.text.specs.Bytes.{double_quote}
use Rattle.line_kinds.specs.Kinds.{begins_with_letter, begins_heading}

no_quote : (text : List ℕ) → pointwise eqb (take 1 text) (double_quote ∷ []) ≡ false → begins_with_letter text ≡ begins_heading text
unfolding begins_heading
no_quote [] e = refl
no_quote (byte ∷ text) e = rw (sym (and-true (eqb byte double_quote)) ∙ e)

quote_first : (text : List ℕ) → pointwise eqb (take 1 text) (double_quote ∷ []) ≡ true → begins_with_letter (drop 1 text) ≡ begins_heading text
unfolding begins_heading
quote_first [] e = cc
quote_first (byte ∷ text) e = rw (sym (and-true (eqb byte double_quote)) ∙ e)

-- without the double quote that a text may begin with
pub without_quote : (text : Bor (List ℕ)) (rest : Option (Bor (List ℕ)))
    → MatchOption rest (pointwise eqb (take 1 text.now) (double_quote ∷ []) ≡ false)
    (λ kept. (pointwise eqb (take 1 text.now) (double_quote ∷ []) ≡ true) × (kept.now ≡ drop 1 text.now) × (length kept.now + 1 ≡ length text.now))
    → begins_with_letter (unwrap_or rest text).now ≡ begins_heading text.now
without_quote text None h = no_quote text.now h
without_quote text (Some kept) h = ap begins_with_letter h.1 ∙ quote_first text.now h.0
