-- The first line of a text, and the lines after it, by the place of the first line feed.
use mathlib.Core.Path.{◌≡◌, refl, sym, ap, subst, ◌∙◌}
use mathlib.Core.Bool.{Bool, true, false, ◌&&◌, cond, and-true, and-false}
use mathlib.Core.List.{List, [], ◌∷◌, map}
use Prim.Native.Nat.{ℕ, zero, suc, ◌+◌, ◌-◌, ◌≤◌, ◌<◌}
use native.Mathlib.Omega.{arith}
use lib.Dec.{eqb}
use lib.ListN.{length, length-drop, get_or, take, drop, length-take}
use lib.Pointwise.{pointwise}
use lib.Seq.{take_all, take-take, drop-cons, length-take-le}
use Rattle.std.specs.Prelude.{Option, None, Some}
use Rattle.std.specs.Option.{MatchOption, unwrap_or}
use Rattle.std.proofs.Common.{Bor}
use Rattle.std.proofs.lemmas.List.{drop-take}
use Rattle.text.specs.Bytes.{line_feed, carriage_return}
use Rattle.text.specs.Search.{is_byte, before, from}
use Rattle.text.specs.Lines.{first_of, others_of, with_byte, line_feed_follows, whole_lines, before_comment, without_comment, lines, after_line, IsPart, AfterLine}
use Rattle.text.proofs.Searches.{from_within}
use Rattle.text.proofs.Parts.{part_after}

-- the place of the first line feed
abbrev pub line_end : List ℕ → ℕ
line_end text = length (before (is_byte line_feed) text)

-- ---- The lines after the first

after_whole_line : (text : List ℕ) → whole_lines (drop 1 (from (is_byte line_feed) text)) ≡ others_of (whole_lines text)
unfolding whole_lines from
after_whole_line [] = refl
after_whole_line (byte ∷ text) = go (eqb byte line_feed) (eqb byte carriage_return && line_feed_follows text) (after_whole_line text)
  where
    go : (ends returns : Bool) → whole_lines (drop 1 (from (is_byte line_feed) text)) ≡ others_of (whole_lines text)
        → whole_lines (drop 1 (cond ends (byte ∷ text) (from (is_byte line_feed) text)))
        ≡ others_of (cond ends ([] ∷ whole_lines text) (cond returns (whole_lines text) (with_byte byte (whole_lines text))))
    go true returns e = refl
    go false true e = e
    go false false e = e

others_of_map : (f : List ℕ → List ℕ) (all : List (List ℕ)) → map f (others_of all) ≡ others_of (map f all)
others_of_map f [] = refl
others_of_map f (line ∷ others) = refl

lines_after : (text : List ℕ) → lines (after_line text) ≡ others_of (lines text)
unfolding lines
lines_after text = ap (map without_comment) (after_whole_line text) ∙ others_of_map without_comment (whole_lines text)

after_first : (text rest : List ℕ) → (0 < length text → length rest < length text) → rest ≡ after_line text → AfterLine text rest
after_first text rest shorter is = record {
  shorter = shorter;
  others = ap lines is ∙ lines_after text;
  rest_is = is;
  part = subst (IsPart text) (sym is) (part_after text);
}

-- what is left where the line feed is passed, or where there is none
pub line_passed : (text rest : List ℕ) → rest ≡ drop 1 (from (is_byte line_feed) text) → AfterLine text rest
line_passed text rest is =
    after_first text rest
    (λ some. omega (arith, ap length is, length-drop 1 (from (is_byte line_feed) text), from_within (is_byte line_feed) text))
    is

-- ---- The first line

-- whether a line feed follows, by its place
follows_here : (text : List ℕ) → line_end text ≡ 0 → 0 < length text → line_feed_follows text ≡ true
unfolding before
follows_here [] e l = absurd (omega arith)
follows_here (byte ∷ text) e l = go (eqb byte line_feed) e
  where
    go : (ends : Bool) → length (cond ends [] (byte ∷ before (is_byte line_feed) text)) ≡ 0 → ends ≡ true
    go true e = refl
    go false e = absurd (omega arith)

follows_later : (text : List ℕ) → 0 < line_end text → line_feed_follows text ≡ false
unfolding before
follows_later [] l = refl
follows_later (byte ∷ text) l = go (eqb byte line_feed) l
  where
    go : (ends : Bool) → 0 < length (cond ends [] (byte ∷ before (is_byte line_feed) text)) → ends ≡ false
    go true l = absurd (omega arith)
    go false l = refl

follows_never : (text : List ℕ) → length text ≤ line_end text → line_feed_follows text ≡ false
follows_never [] l = refl
follows_never (byte ∷ text) l = follows_later (byte ∷ text) (omega arith)

-- a byte before the line feed
one_byte_further : (byte : ℕ) (text : List ℕ) → 0 < line_end (byte ∷ text) → line_end (byte ∷ text) ≡ suc (line_end text)
unfolding before
one_byte_further byte text l = go (eqb byte line_feed) l
  where
    go : (ends : Bool) → 0 < length (cond ends [] (byte ∷ before (is_byte line_feed) text))
        → length (cond ends [] (byte ∷ before (is_byte line_feed) text)) ≡ suc (line_end text)
    go true l = absurd (omega arith)
    go false l = refl

-- a text that begins with a line feed, or is empty
line_feed_first : (text : List ℕ) → line_end text ≡ 0 → [] ≡ first_of (whole_lines text)
unfolding whole_lines
line_feed_first [] e = refl
line_feed_first (byte ∷ text) e = rw (follows_here (byte ∷ text) e (omega arith))

-- a byte that ends no line
kept_byte : (byte : ℕ) (text : List ℕ) → 0 < line_end (byte ∷ text) → line_feed_follows text ≡ false
    → first_of (whole_lines (byte ∷ text)) ≡ byte ∷ first_of (whole_lines text)
unfolding whole_lines
kept_byte byte text l e = rw (follows_later (byte ∷ text) l, e, and-false (eqb byte carriage_return))

no_line_feed : (text : List ℕ) → length text ≤ line_end text → text ≡ first_of (whole_lines text)
unfolding whole_lines
no_line_feed [] l = refl
no_line_feed (byte ∷ text) l =
    let m = one_byte_further byte text (omega arith) in
    let within : length text ≤ line_end text = omega arith in
    sym (kept_byte byte text (omega arith) (follows_never text within) ∙ ap (λ line. byte ∷ line) (sym (no_line_feed text within)))

-- the byte before the line feed decides where the line's content ends
return_or_byte : (byte : ℕ) (text : List ℕ) → 0 < line_end (byte ∷ text) → line_feed_follows text ≡ true → [] ≡ first_of (whole_lines text)
    → take (cond (eqb byte carriage_return) 0 1) (byte ∷ text) ≡ first_of (whole_lines (byte ∷ text))
unfolding whole_lines
return_or_byte byte text l f e = rw (follows_later (byte ∷ text) l, f, and-true (eqb byte carriage_return)) (go (eqb byte carriage_return))
  where
    go : (returns : Bool) → take (cond returns 0 1) (byte ∷ text) ≡ first_of (cond returns (whole_lines text) (with_byte byte (whole_lines text)))
    go true = e
    go false = ap (λ line. byte ∷ line) e

up_to_content : (text : List ℕ) (last : ℕ) → line_end text ≡ suc last → suc last < length text
    → take (cond (eqb (get_or text last 0) carriage_return) last (suc last)) text ≡ first_of (whole_lines text)
up_to_content [] last e l = absurd (omega arith)
up_to_content (byte ∷ text) zero e l =
    let m = one_byte_further byte text (omega arith) in
    return_or_byte byte text (omega arith) (follows_here text (omega arith) (omega arith)) (line_feed_first text (omega arith))
up_to_content (byte ∷ text) (suc last) e l =
    let m = one_byte_further byte text (omega arith) in
    go (eqb (get_or text last 0) carriage_return) (up_to_content text last (omega arith) (omega arith))
    ∙ sym (kept_byte byte text (omega arith) (follows_later text (omega arith)))
  where
    go : (returns : Bool) → take (cond returns last (suc last)) text ≡ first_of (whole_lines text)
        → take (cond returns (suc last) (suc (suc last))) (byte ∷ text) ≡ byte ∷ first_of (whole_lines text)
    go true e = ap (λ line. byte ∷ line) e
    go false e = ap (λ line. byte ∷ line) e

-- what a search for the first line feed tells of the first line
module _ (text : List ℕ) (end : ℕ) (is : end ≡ line_end text) where
  pub without_line_feed : end ≡ length text → take end text ≡ first_of (whole_lines text)
  without_line_feed e = take_all end text (omega arith) ∙ no_line_feed text (omega arith)

  with_line_feed_first : end ≡ 0 → take end text ≡ first_of (whole_lines text)
  with_line_feed_first e = ap (λ n. take n text) e ∙ line_feed_first text (sym is ∙ e)

  module _ (some : 0 < end) (within : end < length text) where
    content : take (cond (eqb (get_or text (end - 1) 0) carriage_return) (end - 1) (suc (end - 1))) text ≡ first_of (whole_lines text)
    content = up_to_content text (end - 1) (omega arith) (omega arith)

    -- what a test of the last byte before the line feed tells
    last_byte : drop (length (take end text) - 1) (take end text) ≡ get_or text (end - 1) 0 ∷ []
    last_byte =
        let one_more : end ≡ end - 1 + 1 = omega arith in
        ap (λ n. drop (n - 1) (take end text)) (length-take-le end text (omega arith))
        ∙ ap (λ n. drop (end - 1) (take n text)) one_more
        ∙ drop-take (end - 1) 1 text
        ∙ ap (take 1) (drop-cons text (end - 1) 0 (omega arith))

    last_test : pointwise eqb (drop (length (take end text) - 1) (take end text)) (carriage_return ∷ []) ≡ eqb (get_or text (end - 1) 0) carriage_return
    last_test = ap (λ last. pointwise eqb last (carriage_return ∷ [])) last_byte ∙ and-true (eqb (get_or text (end - 1) 0) carriage_return)

  module _ (within : end < length text) where
    return_stripped : pointwise eqb (drop (length (take end text) - 1) (take end text)) (carriage_return ∷ []) ≡ true
        → take (length (take end text) - 1) (take end text) ≡ first_of (whole_lines text)
    return_stripped e = go end refl
      where
        go : (n : ℕ) → n ≡ end → take (length (take end text) - 1) (take end text) ≡ first_of (whole_lines text)
        go zero none = cc (ap (λ n. pointwise eqb (drop (length (take n text) - 1) (take n text)) (carriage_return ∷ [])) none ∙ e)
        go (suc n) some =
            take-take (length (take end text) - 1) end text (omega (arith, length-take end text))
            ∙ ap (λ n. take (n - 1) text) (length-take-le end text (omega arith))
            ∙ rw (sym (last_test (omega arith) within) ∙ e) at content (omega arith) within

    nothing_stripped : pointwise eqb (drop (length (take end text) - 1) (take end text)) (carriage_return ∷ []) ≡ false
        → take end text ≡ first_of (whole_lines text)
    nothing_stripped e = go end refl
      where
        go : (n : ℕ) → n ≡ end → take end text ≡ first_of (whole_lines text)
        go zero none = with_line_feed_first (sym none)
        go (suc n) some =
            let one_more : end ≡ suc (end - 1) = omega arith in
            ap (λ n. take n text) one_more ∙ rw (sym (last_test (omega arith) within) ∙ e) at content (omega arith) within

    -- the line without the carriage return that it may end with
    pub stripped : (line : Bor (List ℕ)) (rest : Option (Bor (List ℕ))) → line.now ≡ take end text
        → MatchOption rest (pointwise eqb (drop (length (take end text) - 1) (take end text)) (carriage_return ∷ []) ≡ false)
        (λ kept. (pointwise eqb (drop (length (take end text) - 1) (take end text)) (carriage_return ∷ []) ≡ true)
        × (kept.now ≡ take (length (take end text) - 1) (take end text))
        × (length kept.now + 1 ≡ length (take end text)))
        → (unwrap_or rest line).now ≡ first_of (whole_lines text)
    stripped line None is h = is ∙ nothing_stripped h
    stripped line (Some kept) is h = h.1 ∙ return_stripped h.0

-- ---- Comments

first_of_map : (all : List (List ℕ)) → without_comment (first_of all) ≡ first_of (map without_comment all)
unfolding before_comment
first_of_map [] = refl
first_of_map (line ∷ others) = refl

pub first_without_comment : (text : List ℕ) → without_comment (first_of (whole_lines text)) ≡ first_of (lines text)
unfolding lines
first_without_comment text = first_of_map (whole_lines text)
