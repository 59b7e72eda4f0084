-- Multiplication by a fraction of whole units that is a little too little gives a quotient that is a little too little.
-- Reach for it where such a multiplication stands for a division.
use Prim.Native.Nat.{ℕ, ◌+◌, ◌*◌, ◌≤◌, ◌<◌}
use native.Mathlib.Nat.{mul-le-mul_left, mul-le-mul_right, le_of_mul-le-mul_right, lt_of_mul-lt-mul_right}
use native.Mathlib.Omega.{arith}

-- f is at most T x / d, and q is r f / T, cut: then q is at most r x / d
pub estimate-≤ : (T x d f r q : ℕ) → 0 < T → f * d ≤ T * x → q * T ≤ r * f → q * d ≤ r * x
estimate-≤ T x d f r q t h k = le_of_mul-le-mul_right {m = q * d} {n = r * x} {k = T} (omega (arith, mul-le-mul_right d k, mul-le-mul_left r h)) t

-- and less than 1 + c below it, where f is less than g too little and r g at most c T
pub estimate-< : (T x d f g r q c : ℕ) → 0 < d → T * x < (f + g) * d → r * f < (q + 1) * T → r * g ≤ c * T → r * x < (q + 1 + c) * d
estimate-< T x d f g r q c p h k l =
    lt_of_mul-lt-mul_right T {m = r * x} {n = (q + 1 + c) * d} (omega (arith, mul-le-mul_left r h, mul-le-mul_right d k, mul-le-mul_right d l))
