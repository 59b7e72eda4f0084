-- What a share's answer says of the share.
use Rattle.std.proofs.Common.{◌≡◌, ◌<◌, ◌≤◌, Bool, true, false, ℤ, pos, neg_ℤ, nat_abs, sym, refl, ap, ◌∙◌, leb-true, cond, Option, Some, None}
use Rattle.std.specs.Bool.{then_some}
use borrow.Author.Tests.{lt-leb}
use Rattle.method.specs.Limits.{greatest_figure}
use Rattle.method.specs.Tests.{from_to, figure_in_range}
use Rattle.method.proofs.Tests.{Says, differ, tells_which, says_leb, says_map, says_from_to}
use Rattle.integers.proofs.Order.{nat_abs-≤}
use Rattle.prepared_ratios.specs.Ratio.{greatest_size}
use Rattle.share.specs.declared.millionths.Millionths.{Millionths}
use Rattle.share.specs.Share.{share_or_too_large}

-- ---- From the share to its answer

-- two tests of the same
same_test : {a b : Bool} {P : Type 0} → Says a P → Says b P → a ≡ b
same_test {a = true} {b = true} s r = refl
same_test {a = true} {b = false} s r = absurd (differ (r.complete (s.sound refl)) refl)
same_test {a = false} {b = true} s r = absurd (differ (s.complete (r.sound refl)) refl)
same_test {a = false} {b = false} s r = refl

-- question 9 by both ends of its range
range_is : (x : ℤ) → from_to (neg_ℤ greatest_figure) greatest_figure x ≡ figure_in_range x
unfolding figure_in_range
range_is x =
    let size = nat_abs-≤ x greatest_size in
    same_test (says_map size.1 size.0 (says_from_to (neg_ℤ greatest_figure) greatest_figure x)) (says_leb (nat_abs x) greatest_size)

pub tested_is : (x : ℤ) → then_some (from_to (neg_ℤ greatest_figure) greatest_figure x) (record { 0 = x }) ≡ share_or_too_large x
unfolding share_or_too_large
tested_is x = rw (range_is x) (by_test (figure_in_range x) (record { 0 = x }))
  where
    by_test : (within : Bool) (m : Millionths) → then_some within m ≡ cond within (Some m) None
    by_test true m = refl
    by_test false m = refl

pub past_limit_too_large : (x : ℤ) → greatest_size < nat_abs x → None ≡ share_or_too_large x
unfolding share_or_too_large figure_in_range
past_limit_too_large x l = rw (lt-leb (nat_abs x) greatest_size l)

-- ---- From the answer to the share

figure : Option Millionths → ℤ
figure (Some m) = m.0
figure None = pos 0

rounded : Option Millionths → Bool
rounded (Some m) = true
rounded None = false

-- which case it is says whether the size is within the limit
case_is : (x : ℤ) → figure_in_range x ≡ rounded (share_or_too_large x)
unfolding share_or_too_large rounded
case_is x = tells_which rounded (figure_in_range x) _ _ refl refl

pub too_large_is : (x : ℤ) → None ≡ share_or_too_large x → figure_in_range x ≡ false
unfolding rounded
too_large_is x e = case_is x ∙ sym (ap rounded e)

pub rounded_is : (x : ℤ) (m : Millionths) → Some m ≡ share_or_too_large x → (m.0 ≡ x) × (figure_in_range x ≡ true)
unfolding share_or_too_large figure rounded
rounded_is x m e =
    let within : figure_in_range x ≡ true = case_is x ∙ sym (ap rounded e) in
    (ap figure e ∙ rw within, within)

pub rounded_size : (x : ℤ) (m : Millionths) → Some m ≡ share_or_too_large x → nat_abs m.0 ≤ greatest_size
unfolding figure_in_range
rounded_size x m e = rw (rounded_is x m e).0 (leb-true (nat_abs x) greatest_size (rounded_is x m e).1)
