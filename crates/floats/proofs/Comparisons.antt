-- What comparisons of floats say of the numbers: of a float between two powers of 2, equal to its whole part, equal to a whole number.
use Rattle.std.proofs.Common.{◌≡◌, ℕ, zero, suc, ◌+◌, ◌*◌, ◌/◌, ◌%◌, ◌^◌, ◌<◌, ◌≤◌, Bool, true, false, ◌&&◌, ◌||◌, eqb, ltb, leb, ◌⊎◌, ℤ, sym, refl, ap, ◌∙◌, inl, inr, ⊎_elim, true≢false, zero-lt-suc, mul_comm, add-mul, mul-pos, zero-mul, mul-one, mul_right_comm, arith, pow_pos, ltb-false, ltb-true, lt-ltb, eq-eqb, eqb-true, le-leb, leb-true}
use mathlib.Core.Bool.{beq, and-true, false≢true}
use native.Mathlib.Nat.{div-add-mod, mul-mod_left, eq_of_mul-eq-mul_right}
use lib.Ieee.{Float, nan, inf, fin, up, down, lt, le, eq}
use lib.Ieee.Fits.{down_pos}
use lib.Ieee.Exact.{HasValue}
use Rattle.floats.specs.Reading.{within}

-- ---- Tests

pub same_test : (x y : Bool) → (x ≡ true → y ≡ true) → (y ≡ true → x ≡ true) → x ≡ y
same_test true true f g = refl
same_test true false f g = sym (f refl)
same_test false true f g = g refl
same_test false false f g = refl

below_or_equal : (a b : ℕ) (e : Bool) → (e ≡ true → a ≡ b) → (a ≡ b → e ≡ true) → (ltb a b || (e && true)) ≡ leb a b
below_or_equal a b e f g = same_test (ltb a b || (e && true)) (leb a b) (forth (ltb a b) e refl f) (back (ltb a b) e refl g)
  where
    forth : (l e : Bool) → ltb a b ≡ l → (e ≡ true → a ≡ b) → (l || (e && true)) ≡ true → leb a b ≡ true
    forth true e p f t = le-leb a b (omega (arith, ltb-true a b p))
    forth false true p f t = le-leb a b (omega (arith, f refl))
    forth false false p f t = absurd (false≢true t)

    back : (l e : Bool) → ltb a b ≡ l → (a ≡ b → e ≡ true) → leb a b ≡ true → (l || (e && true)) ≡ true
    back true e p g t = refl
    back false true p g t = refl
    back false false p g t = g (omega (arith, ltb-false a b p, leb-true a b t))

-- ---- Between -2^k and 2^k

pub between_powers : (k : ℕ) (s : Bool) (m : ℕ) (e : ℤ) → within k (fin s m e) ≡ leb (m * up e) (1 * 2 ^ k * down e)
unfolding le lt eq
between_powers k true m e =
    let a = m * up e * 1 in
    let limit = 1 * 2 ^ k * down e in
    let above : ltb 0 (a + limit) ≡ true = lt-ltb 0 (a + limit) (omega (arith, mul-pos (pow_pos k) (down_pos e))) in
    ap (λ (t : Bool). (ltb a limit || (eqb limit a && true)) && (t || (eqb a limit && eqb a 0))) above
    ∙ and-true (ltb a limit || (eqb limit a && true))
    ∙ below_or_equal a limit (eqb limit a) (λ t. sym (eqb-true limit a t)) (λ p. eq-eqb limit a (sym p))
    ∙ ap (λ (x : ℕ). leb x limit) (mul-one (m * up e))
between_powers k false m e =
    let a = m * up e * 1 in
    let limit = 1 * 2 ^ k * down e in
    let below : ltb 0 (limit + a) ≡ true = lt-ltb 0 (limit + a) (omega (arith, mul-pos (pow_pos k) (down_pos e))) in
    ap (λ (t : Bool). (t || (eqb limit a && eqb limit 0)) && (ltb a limit || (eqb a limit && true))) below
    ∙ below_or_equal a limit (eqb a limit) (eqb-true a limit) (eq-eqb a limit)
    ∙ ap (λ (x : ℕ). leb x limit) (mul-one (m * up e))

-- so a float there is a number of at most 2^k in size
pub by_size : (k : ℕ) (x : Float) → within k x ≡ true → (P : Float → Type 0) → ((s : Bool) (m : ℕ) (e : ℤ) → m * up e ≤ 1 * 2 ^ k * down e → P (fin s m e)) → P x
unfolding le lt eq
by_size k nan h P p = absurd (false≢true h)
by_size k (inf true) h P p = absurd (false≢true h)
by_size k (inf false) h P p = absurd (false≢true h)
by_size k (fin s m e) h P p = p s m e (leb-true (m * up e) (1 * 2 ^ k * down e) (sym (between_powers k s m e) ∙ h))

-- ---- Equal to its whole part: there is no rest

no_rest : (r d : ℕ) → 0 < d → r * d ≡ 0 → r ≡ 0
no_rest zero d h p = refl
no_rest (suc r) d h p = absurd (let wrong : ⊥ = omega (arith, mul-pos (zero-lt-suc r) h) in wrong)

-- of a / b, times d: the whole part and the rest
whole_part_and_rest : (a b d : ℕ) → a * d ≡ a / b * d * b + a % b * d
whole_part_and_rest a b d =
    ap (λ (x : ℕ). x * d) (sym (div-add-mod a b))
    ∙ add-mul (b * (a / b)) (a % b) d
    ∙ ap (λ (x : ℕ). x * d + a % b * d) (mul_comm b (a / b))
    ∙ ap (λ (x : ℕ). x + a % b * d) (mul_right_comm (a / b) b d)

and_first : (x y : Bool) → (x && y) ≡ true → x ≡ true
and_first true y h = refl
and_first false y h = absurd (false≢true h)

same_sign_or_zero : (u s : Bool) (size : ℕ) → (u ≡ s) ⊎ (size ≡ 0) → (beq u s || eqb size 0) ≡ true
same_sign_or_zero true true size w = refl
same_sign_or_zero true false size (inl p) = absurd (true≢false p)
same_sign_or_zero true false size (inr p) = eq-eqb size 0 p
same_sign_or_zero false true size (inl p) = absurd (false≢true p)
same_sign_or_zero false true size (inr p) = eq-eqb size 0 p
same_sign_or_zero false false size w = refl

pub equal_to_whole_part : (y : Float) (t s : Bool) (m : ℕ) (e : ℤ) → HasValue y t (m * up e / down e) 1 → (t ≡ s) ⊎ (m * up e / down e ≡ 0)
    → eq y (fin s m e) ≡ eqb (m * up e % down e) 0
unfolding eq
equal_to_whole_part nan t s m e v w = absurd v
equal_to_whole_part (inf u) t s m e v w = absurd v
equal_to_whole_part (fin u n d) t s m e v w =
    let q = m * up e / down e in
    let r = m * up e % down e in
    let left = n * up d * down e in
    let right = m * up e * down d in
    let same : left ≡ q * down d * down e = ap (λ (x : ℕ). x * down e) (sym (mul-one (n * up d)) ∙ v.1) in
    let more : right ≡ q * down d * down e + r * down d = whole_part_and_rest (m * up e) (down e) (down d) in
    let nothing : q ≡ 0 → left ≡ 0 = λ p. same ∙ ap (λ (x : ℕ). x * down d * down e) p ∙ ap (λ (x : ℕ). x * down e) (zero-mul (down d)) ∙ zero-mul (down e) in
    same_test (eqb left right && (beq u s || eqb left 0)) (eqb r 0)
    (λ h. eq-eqb r 0 (no_rest r (down d) (down_pos d) (omega (arith, same, more, eqb-true left right (and_first (eqb left right) (beq u s || eqb left 0) h)))))
    (λ h.
    let none : r * down d ≡ 0 = ap (λ (x : ℕ). x * down d) (eqb-true r 0 h) ∙ zero-mul (down d) in
    let level : eqb left right ≡ true = eq-eqb left right (omega (arith, same, more, none)) in
    let sign : (beq u s || eqb left 0) ≡ true = same_sign_or_zero u s left (⊎_elim (λ p. inl (v.0 ∙ p)) (λ p. inr (nothing p)) w) in
    ap (λ (x : Bool). x && (beq u s || eqb left 0)) level ∙ sign)

-- ---- Equal to a whole number: again there is no rest

pub equal_to_whole : (y : Float) (t : Bool) (n : ℕ) (s : Bool) (m : ℕ) (e : ℤ) → HasValue y t n 1 → eq y (fin s m e) ≡ true → m * up e % down e ≡ 0
unfolding eq
equal_to_whole nan t n s m e v h = absurd v
equal_to_whole (inf u) t n s m e v h = absurd v
equal_to_whole (fin u k d) t n s m e v h =
    let left = k * up d * down e in
    let right = m * up e * down d in
    let level : left ≡ right = eqb-true left right (and_first (eqb left right) (beq u s || eqb left 0) h) in
    let size : m * up e ≡ n * down e =
    eq_of_mul-eq-mul_right (down d) (down_pos d) (m * up e) (n * down e)
    (sym level ∙ ap (λ (x : ℕ). x * down e) (sym (mul-one (k * up d)) ∙ v.1) ∙ mul_right_comm n (down d) (down e)) in
    ap (λ (x : ℕ). x % down e) size ∙ mul-mod_left n (down e)
