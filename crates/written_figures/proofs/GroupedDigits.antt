-- The digits of a number in groups of three, from the right, and how many bytes they take.
use mathlib.Core.Path.{◌≡◌, refl, sym, ap, ◌∙◌}
use mathlib.Core.List.{List, [], ◌∷◌, ◌++◌, append_assoc}
use Prim.Native.Nat.{ℕ, zero, suc, ◌+◌, ◌*◌, ◌/◌, ◌^◌, ◌≤◌, ◌<◌}
use native.Mathlib.Nat.{div-lt_iff_lt-mul, pow-suc}
use native.Mathlib.Decide.{dec_lt}
use native.Mathlib.Omega.{arith}
use Rattle.std.proofs.lemmas.Grind.{common_steps}
use borrow.Author.Tests.{lt-ltb, le-ltb}
use lib.ListN.{length, length-append}
use Rattle.written_figures.specs.declared.writing.Written.{Written}
use Rattle.written_figures.specs.Writing.{Before, three_digits, comma, first_group, grouped_in, grouped}
use Rattle.written_figures.proofs.TextsBefore.{both_before}

-- ---- The first group

pub first_group_length : (n : ℕ) → length (first_group n) ≤ 3
unfolding first_group
first_group_length n = grind (arith, common_steps)

-- ---- All groups

one_group_less : (k n : ℕ) → n < 1000 ^ suc (suc k) → n / 1000 < 1000 ^ suc k
one_group_less k n h = (div-lt_iff_lt-mul {k = 1000} {x = n} {y = 1000 ^ suc k} (omega arith)).1 (rw (pow-suc 1000 (suc k)) at h)

-- more groups than a number has make no difference
enough_groups : (s t n : ℕ) → n < 1000 ^ suc s → n < 1000 ^ suc t → grouped_in s n ≡ grouped_in t n
unfolding grouped_in
enough_groups zero zero n h k = refl
enough_groups zero (suc t) n h k = sym (rw (lt-ltb n 1000 (omega arith)))
enough_groups (suc s) zero n h k = rw (lt-ltb n 1000 (omega arith))
enough_groups (suc s) (suc t) n h k = go (dec_lt n 1000) (enough_groups s t (n / 1000) (one_group_less s n h) (one_group_less t n k))
  where
    go : Dec (n < 1000) → grouped_in s (n / 1000) ≡ grouped_in t (n / 1000) → grouped_in (suc s) n ≡ grouped_in (suc t) n
    go (yes l) others = rw (lt-ltb n 1000 l)
    go (no l) others = rw (le-ltb n 1000 (omega arith)) (ap (λ front. front ++ comma ∷ three_digits n) others)

one_group : (n : ℕ) → n < 1000 → grouped n ≡ first_group n
unfolding grouped grouped_in
one_group n h = rw (lt-ltb n 1000 h)

further_group : (n : ℕ) → 1000 ≤ n → n < 2 ^ 64 → grouped n ≡ grouped (n / 1000) ++ comma ∷ three_digits n
unfolding grouped grouped_in
further_group n h k =
    rw (le-ltb n 1000 h) (ap (λ front. front ++ comma ∷ three_digits n) (enough_groups 5 6 (n / 1000) (omega arith) (omega arith)))

pub grouped_in_length : (k n : ℕ) → length (grouped_in k n) ≤ 4 * k + 3
unfolding grouped_in
grouped_in_length zero n = first_group_length n
grouped_in_length (suc k) n = go (dec_lt n 1000) (grouped_in_length k (n / 1000))
  where
    go : Dec (n < 1000) → length (grouped_in k (n / 1000)) ≤ 4 * k + 3 → length (grouped_in (suc k) n) ≤ 4 * suc k + 3
    go (yes l) others = rw (lt-ltb n 1000 l) (omega (arith, first_group_length n))
    go (no l) others = rw (le-ltb n 1000 (omega arith)) (omega (arith, length-append (grouped_in k (n / 1000)) (comma ∷ three_digits n)))

-- a number below 1000 to the power of k + 1 has at most k commas
pub grouped_length : (k n : ℕ) → n < 1000 ^ suc k → n < 1000 ^ 7 → length (grouped n) ≤ 4 * k + 3
unfolding grouped
grouped_length k n h l = rw (enough_groups 6 k n l h) (grouped_in_length k n)

-- ---- What is written when some groups are left

pub record WrittenSoFar (number left : ℕ) (text so_far : Written) : Type 0 where
  pub groups : List ℕ
  pub before : Before groups text so_far
  pub rest : grouped number ≡ grouped left ++ groups
  pub left_fits : left < 2 ^ 64

pub one_group_more : {number left : ℕ} {text so_far v r : Written} → WrittenSoFar number left text so_far → 1000 ≤ left
    → Before (three_digits left) so_far v → Before (comma ∷ []) v r → WrittenSoFar number (left / 1000) text r
one_group_more {left = left} w h digits further = record {
  groups = (comma ∷ three_digits left) ++ w.groups;
  before = both_before (both_before w.before digits) further;
  rest = w.rest ∙ ap (λ front. front ++ w.groups) (further_group left h w.left_fits) ∙ append_assoc (grouped (left / 1000)) (comma ∷ three_digits left) w.groups;
  left_fits = omega arith;
}

pub all_groups : {number left : ℕ} {text so_far r : Written} → WrittenSoFar number left text so_far → left < 1000
    → Before (first_group left) so_far r → Before (grouped number) text r
all_groups {left = left} w h first = rw (w.rest, one_group left h) (both_before w.before first)
