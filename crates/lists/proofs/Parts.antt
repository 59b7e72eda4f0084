-- Parts of a list: what is left of it from a place on, a front that is taken twice, and a part that was lent and is back.
use mathlib.Core.Path.{◌≡◌, refl, ap, ◌∙◌}
use mathlib.Core.List.{List, [], ◌∷◌, ◌++◌}
use Prim.Native.Nat.{ℕ, zero, suc, ◌-◌, ◌≤◌}
use native.Mathlib.Omega.{arith}
use borrow.Rule.Slice.PartMut.{put_mid, same_len_mid, take_put}
use lib.ListN.{length, take, drop, length-drop}
use lib.Seq.{take_all, length-take-le, drop_at, take-append_seam}

-- ---- The part from a place to the end, as a call is lent it

module _ {A : Type 0} (list : List A) (start : ℕ) where
  pub whole_rest : take (length list - start) (drop start list) ≡ drop start list
  whole_rest = take_all (length list - start) (drop start list) (omega (arith, length-drop start list))

  pub rest_length : length (take (length list - start) (drop start list)) ≡ length list - start
  rest_length = ap length whole_rest ∙ length-drop start list

-- ---- As much as has room, before something else

pub take_before_append : {A : Type 0} (n : ℕ) (first others : List A) → take n (take n first ++ others) ≡ take n (first ++ others)
take_before_append zero first others = refl
take_before_append (suc n) [] others = refl
take_before_append (suc n) (x ∷ first) others = ap (λ rest. x ∷ rest) (take_before_append n first others)

-- ---- A part that was lent

-- the list after it, which has the part at a place
pub record PartBack {A : Type 0} (before after part : List A) (at : ℕ) : Type 0 where
  pub same_length : length after ≡ length before
  pub first_kept : take at after ≡ take at before
  pub part_there : take (length part) (drop at after) ≡ part

-- `put_mid at size list part` is `take at list ++ (part ++ drop size (drop at list))`.
pub part_back : {A : Type 0} (list part : List A) (at size : ℕ) → at ≤ length list → length part ≡ length (take size (drop at list))
    → PartBack list (put_mid at size list part) part at
part_back list part at size within long = record {
  same_length = same_len_mid at size list part long;
  first_kept = take_put at size list part within;
  part_there =
      ap (take (length part)) (drop_at (take at list) (part ++ drop size (drop at list)) at (length-take-le at list within))
      ∙ take-append_seam part (drop size (drop at list));
}
