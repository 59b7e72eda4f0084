-- Lists and arrays that are filled from the left, place by place: what holds of the places that are filled, and that the others are kept.
use mathlib.Core.Path.{◌≡◌, refl, sym, subst, ◌∙◌}
use mathlib.Core.List.{List}
use Prim.Native.Nat.{ℕ, ◌+◌, ◌≤◌, ◌<◌}
use native.Mathlib.Decide.{dec_lt}
use native.Mathlib.Omega.{arith}
use borrow.Author.Count.{below_more}
use lib.ListN.{length, get_or, set, replicate, length-set, length-replicate, get_or-replicate, get_or-eq_default}
use lib.Seq.{get_or-set_same, get_or-set_other, ext_get_or}

-- by whether a place lies inside the list or beyond its end
pub inside_or_beyond : {A : Type 0} (P : A → Type 0) (xs : List A) (j : ℕ) (d : A) → (j < length xs → P (get_or xs j d)) → (length xs ≤ j → P d) → P (get_or xs j d)
inside_or_beyond P xs j d inside beyond = go (dec_lt j (length xs))
  where
    go : Dec (j < length xs) → P (get_or xs j d)
    go (yes h) = inside h
    go (no h) = subst P (sym (get_or-eq_default xs d (omega arith))) (beyond (omega arith))

-- one value throughout, as a new array has it
pub blank_holds : {A : Type 0} (P : A → Type 0) (m j : ℕ) (x d : A) → P x → P d → P (get_or (replicate m x) j d)
blank_holds P m j x d here beyond =
    inside_or_beyond P (replicate m x) j d (λ h. subst P (sym (get_or-replicate m j x d (omega (arith, length-replicate m x)))) here) (λ h. beyond)

pub blank : {A : Type 0} (m j : ℕ) (d : A) → get_or (replicate m d) j d ≡ d
blank m j d = blank_holds (λ x. x ≡ d) m j d d refl refl

-- P holds of every place before r; with x at r it holds of one place more
pub one_more_place : {A : Type 0} (d : A) (P : ℕ → A → Type 0) (xs : List A) (r : ℕ) (x : A) → r < length xs → P r x
    → ((j : ℕ) → j < r → P j (get_or xs j d)) → (j : ℕ) → j < r + 1 → P j (get_or (set xs r x) j d)
one_more_place d P xs r x inside here before =
    below_more (λ j. P j (get_or (set xs r x) j d)) r
    (λ j l. subst (P j) (sym (get_or-set_other xs r j x d (λ same. omega (arith, l, same)))) (before j l))
    (subst (P r) (sym (get_or-set_same xs r x d inside)) here)

-- the first r places are filled so that P holds of each, and the others are as they were
pub record FilledTo {A : Type 0} (d : A) (P : ℕ → A → Type 0) (before after : List A) (r : ℕ) : Type 0 where
  pub same_length : length after ≡ length before
  pub filled : (j : ℕ) → j < r → P j (get_or after j d)
  pub kept : (j : ℕ) → r ≤ j → get_or after j d ≡ get_or before j d

module _ {A : Type 0} {d : A} {P : ℕ → A → Type 0} where
  pub none_filled : (xs : List A) → FilledTo d P xs xs 0
  none_filled xs = record { same_length = refl; filled = λ j h. absurd (omega arith); kept = λ j h. refl }

  module _ {before after : List A} {r : ℕ} (f : FilledTo d P before after r) where
    pub one_more_filled : {x : A} → r < length after → P r x → FilledTo d P before (set after r x) (r + 1)
    one_more_filled {x} inside here = record {
      same_length = length-set after r x ∙ f.same_length;
      filled = one_more_place d P after r x inside here f.filled;
      kept = λ j h. get_or-set_other after r j x d (λ same. omega (arith, h, same)) ∙ f.kept j (omega arith);
    }

    -- all places, where P says what stands in each
    pub all_filled : length after ≤ r → (wanted : List A) → length wanted ≡ length before
        → ((j : ℕ) (x : A) → j < length before → P j x → x ≡ get_or wanted j d) → after ≡ wanted
    all_filled whole wanted long said =
        ext_get_or d after wanted (f.same_length ∙ sym long) (λ j h. said j (get_or after j d) (omega (arith, f.same_length)) (f.filled j (omega arith)))
