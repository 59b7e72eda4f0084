-- What is left of a text after some of its lines is a part of it.
use mathlib.Core.Path.{◌≡◌, sym, ap, subst, ◌∙◌}
use Rattle.std.proofs.Common.{◌⊎◌, inl, inr}
use mathlib.Core.List.{List}
use Prim.Native.Nat.{ℕ, zero, suc, ◌+◌, ◌-◌, ◌≤◌, ◌<◌}
use native.Mathlib.Numerals.{add-one}
use native.Mathlib.Omega.{arith}
use lib.ListN.{length, drop, length-drop, drop_of_length-le}
use Rattle.std.proofs.lemmas.Bool.{cases_lt}
use Rattle.std.proofs.lemmas.List.{drop-drop}
use Rattle.text.specs.Bytes.{line_feed}
use Rattle.text.specs.Search.{is_byte, before}
use Rattle.text.specs.Lines.{after_line, after_lines, IsPart, AfterLine}
use Rattle.text.proofs.Searches.{drop_before}

-- what is dropped is as long as the whole but for what is left, and more only where nothing is left
dropped_part : (n : ℕ) (text : List ℕ) → IsPart text (drop n text)
dropped_part n text = go (cases_lt n (length text))
  where
    go : (n < length text) ⊎ (length text ≤ n) → IsPart text (drop n text)
    go (inl within) = ap (λ k. drop k text) (omega (arith, length-drop n text))
    go (inr beyond) =
        drop_of_length-le text beyond ∙ sym (drop_of_length-le text (omega (arith, length-drop n text)))

part_of_part : (text part rest : List ℕ) → IsPart text part → IsPart part rest → IsPart text rest
part_of_part text part rest is_part is_rest =
    let n : ℕ = length text - length part in
    let m : ℕ = length part - length rest in
    let e : rest ≡ drop (n + m) text = is_rest ∙ ap (drop m) is_part ∙ drop-drop m n text in
    subst (IsPart text) (sym e) (dropped_part (n + m) text)

pub part_after : (text : List ℕ) → IsPart text (after_line text)
part_after text =
    let n : ℕ = length (before (is_byte line_feed) text) in
    let e : after_line text ≡ drop (n + 1) text = ap (drop 1) (sym (drop_before (is_byte line_feed) text)) ∙ drop-drop 1 n text in
    subst (IsPart text) (sym e) (dropped_part (n + 1) text)

-- ---- After so many lines

pub part_after_lines : (number : ℕ) (text : List ℕ) → IsPart text (after_lines number text)
unfolding after_lines
part_after_lines zero text = dropped_part 0 text
part_after_lines (suc number) text = part_of_part text (after_lines number text) _ (part_after_lines number text) (part_after (after_lines number text))

pub one_line_more : (number : ℕ) (text rest next : List ℕ) → rest ≡ after_lines number text → AfterLine rest next
    → next ≡ after_lines (number + 1) text
unfolding after_lines
one_line_more number text rest next is after = rw add-one (after.rest_is ∙ ap after_line is)
