-- Texts set before texts, from the right.
use mathlib.Core.Path.{◌≡◌, sym, ap, ap₂, ◌∙◌}
use mathlib.Core.List.{List, [], ◌∷◌, ◌++◌, append_assoc, append-nil}
use Prim.Native.Nat.{ℕ, ◌+◌, ◌-◌, ◌≤◌, ◌<◌}
use native.Mathlib.Numerals.{add-one}
use native.Mathlib.Omega.{arith}
use lib.IntN.{ℤ, pos, negsuc}
use lib.ListN.{length, replicate, set, length-append, length-replicate, replicate-append-replicate}
use lib.Seq.{set_at, drop_at}
use Rattle.written_figures.specs.declared.writing.Written.{Written}
use Rattle.written_figures.specs.Writing.{space, padded, written, figure_text, Before, sign}

-- ---- One byte

one_space_less : (n : ℕ) (text : List ℕ) → replicate (n + 1) space ++ text ≡ replicate n space ++ space ∷ text
one_space_less n text = ap (λ spaces. spaces ++ text) (sym (replicate-append-replicate n 1 space)) ∙ append_assoc (replicate n space) (space ∷ []) text

stored : (byte : ℕ) (text : List ℕ) → length text < 32 → set (padded text) (31 - length text) byte ≡ padded (byte ∷ text)
stored byte text room =
    ap (λ list. set list left byte) (ap (λ n. replicate n space ++ text) more ∙ one_space_less left text)
    ∙ set_at (replicate left space) space text byte left (length-replicate left space)
    ∙ ap (λ n. replicate n space ++ byte ∷ text) same
  where
    left : ℕ
    left = 31 - length text

    more : 32 - length text ≡ left + 1
    more = omega arith

    same : left ≡ 32 - length (byte ∷ text)
    same = omega arith

pub byte_stored : (byte : ℕ) (w : Written)
    → Before (byte ∷ []) w (record { bytes = set w.bytes (31 - w.width) byte; width = w.width + 1 })
byte_stored byte w = record { together = λ text e room. rw e (same (stored byte text (omega arith)) (add-one (length text))) }
  where
    same : {a b : List ℕ} {m n : ℕ} → a ≡ b → m ≡ n → ◌≡◌ {A = Written} (record { bytes = a; width = m }) (record { bytes = b; width = n })
    same p q = ap₂ (λ bytes width. record { bytes = bytes; width = width }) p q

-- ---- Texts

pub nothing_before : (w : Written) → Before [] w w
nothing_before w = record { together = λ text e room. e }

pub both_before : {front further : List ℕ} {w v r : Written} → Before front w v → Before further v r → Before (further ++ front) w r
both_before {front} {further} {w} {v} {r} b d = record { together = λ text e room. go text e (rw append_assoc at room) }
  where
    go : (text : List ℕ) → w ≡ written text → length (further ++ (front ++ text)) ≤ 32 → r ≡ written ((further ++ front) ++ text)
    go text e room =
        d.together (front ++ text) (b.together text e (omega (arith, length-append further (front ++ text)))) room
        ∙ ap written (sym (append_assoc further front text))

pub before_nothing : {front : List ℕ} {w r : Written} → Before front w r → w ≡ written [] → length front ≤ 32 → r ≡ written front
before_nothing {front} b e room = b.together [] e (rw append-nil room) ∙ ap written (append-nil front)

-- a text that has room is what stands at the end of its bytes
pub text_of_written : {text : List ℕ} {w : Written} → length text ≤ 32 → w ≡ written text → figure_text w ≡ text
text_of_written {text} {w} room is = ap figure_text is ∙ drop_at (replicate (32 - length text) space) text (32 - length text) (length-replicate (32 - length text) space)

pub sign_length : (z : ℤ) → length (sign z) ≤ 1
sign_length (pos n) = omega arith
sign_length (negsuc n) = omega arith
