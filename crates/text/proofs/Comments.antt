-- Where the comment of a line begins, sought byte by byte.
use mathlib.Core.Path.{◌≡◌, refl, ap}
use mathlib.Core.Bool.{Bool, true, false, ◌&&◌, cond}
use mathlib.Core.List.{List, [], ◌∷◌}
use Prim.Native.Nat.{ℕ, suc, ◌+◌, ◌≤◌, ◌<◌}
use native.Mathlib.Numerals.{add-one}
use native.Mathlib.Omega.{arith}
use lib.Dec.{eqb}
use lib.ListN.{length, get_or, take, drop, drop_of_length-le}
use lib.Seq.{drop-cons}
use Rattle.text.specs.Bytes.{space}
use Rattle.text.specs.Lines.{begins_comment, before_comment}

-- what stands before the comment is the line's beginning
pub before_comment_within : (may_begin : Bool) (line : List ℕ) → length (before_comment may_begin line) ≤ length line
unfolding before_comment
before_comment_within may_begin [] = omega arith
before_comment_within may_begin (byte ∷ line) = go (may_begin && begins_comment (byte ∷ line)) (before_comment_within (eqb byte space) line)
  where
    go : (here : Bool) → length (before_comment (eqb byte space) line) ≤ length line
        → length (cond here [] (byte ∷ before_comment (eqb byte space) line)) ≤ suc (length line)
    go true h = omega arith
    go false h = omega arith

pub take_before_comment : (may_begin : Bool) (line : List ℕ) → take (length (before_comment may_begin line)) line ≡ before_comment may_begin line
unfolding before_comment
take_before_comment may_begin [] = refl
take_before_comment may_begin (byte ∷ line) = go (may_begin && begins_comment (byte ∷ line)) (take_before_comment (eqb byte space) line)
  where
    go : (here : Bool) → take (length (before_comment (eqb byte space) line)) line ≡ before_comment (eqb byte space) line
        → take (length (cond here [] (byte ∷ before_comment (eqb byte space) line))) (byte ∷ line)
        ≡ cond here [] (byte ∷ before_comment (eqb byte space) line)
    go true e = refl
    go false e = ap (λ rest. byte ∷ rest) e

-- ---- One byte more

module _ (may_begin : Bool) (line : List ℕ) (at : ℕ) (within : at < length line) where
  next_byte : before_comment may_begin (drop at line)
      ≡ cond (may_begin && begins_comment (drop at line)) [] (get_or line at 0 ∷ before_comment (eqb (get_or line at 0) space) (drop (at + 1) line))
  unfolding before_comment
  next_byte = rw (add-one, drop-cons line at 0 within)

  pub comment_here : (may_begin && begins_comment (drop at line)) ≡ true → before_comment may_begin (drop at line) ≡ []
  comment_here e = rw e at next_byte

  pub comment_later : (may_begin && begins_comment (drop at line)) ≡ false
      → at + 1 + length (before_comment (eqb (get_or line at 0) space) (drop (at + 1) line)) ≡ at + length (before_comment may_begin (drop at line))
  comment_later e = omega (arith, ap length (rw e at next_byte))

pub no_comment : (may_begin : Bool) (line : List ℕ) (at : ℕ) → length line ≤ at → length (before_comment may_begin (drop at line)) ≡ 0
unfolding before_comment
no_comment may_begin line at h = rw (drop_of_length-le line h)
