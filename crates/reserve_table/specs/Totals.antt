-- The total of a column, and how it is written.
use Rattle.std.specs.Prelude.{◌≡◌, List, ℕ, zero, suc, ◌-◌, ◌≤◌, ◌<◌, ℤ, pos, ◌+ℤ◌, length, Option, Some, None}
use Rattle.std.specs.Int.{w64}
use Rattle.std.proofs.Common.{SFits}
use Rattle.figures.specs.Bytes.{bytes}
use Rattle.exact_sums.specs.Exact.{exact_of}
use Rattle.written_figures.specs.Writing.{figure_text}
use Rattle.written_figures.specs.declared.writing.Written.{Written}
use Rattle.printed.specs.declared.line.Line.{Line}
use Rattle.printed.specs.Line.{After}
use Rattle.printed.specs.Entries.{entry}

abbrev pub then_on : Option ℤ → (ℤ → Option ℤ) → Option ℤ
then_on (Some total) next = next total
then_on None next = None

-- A total so far with so many numbers more, from a place on; too large where 64 bits do not hold a sum on the way.
unfoldable pub total_from : (ℕ → ℤ) → ℤ → ℕ → ℕ → Option ℤ
total_from number total place zero = Some total
total_from number total place (suc left) = then_on (exact_of (total +ℤ number place)) (λ further. total_from number further (suc place) left)

abbrev pub total_text : (ℤ → List ℕ) → Option ℤ → List ℕ
total_text written (Some total) = written total
total_text written None = bytes "above 64 bits"

-- Whatever the numbers are at the places from `start` on and before `end`, r is their total.
pub record TotalOf (IsNumber : ℕ → ℤ → Type 0) (start end : ℕ) (r : Option ℤ) : Type 0 where
  pub is : (number : ℕ → ℤ) → ((place : ℕ) (x : ℤ) → start ≤ place → place < end → IsNumber place x → x ≡ number place)
      → r ≡ total_from number (pos 0) start (end - start)

-- Whatever text each number is written as, r is the line with the total's text as an entry, or r is that text's length.
pub record WithTotal (IsWritten : ℤ → Written → Type 0) (line : Line) (total : Option ℤ) (column : ℕ) (r : Line) : Type 0 where
  pub is : (text : ℤ → List ℕ) → ((x : ℤ) (w : Written) → SFits w64 x → IsWritten x w → figure_text w ≡ text x)
      → After line (entry column (total_text text total)) r

pub record TotalWidth (IsWritten : ℤ → Written → Type 0) (total : Option ℤ) (r : ℕ) : Type 0 where
  pub is : (text : ℤ → List ℕ) → ((x : ℤ) (w : Written) → SFits w64 x → IsWritten x w → w.width ≡ length (text x))
      → r ≡ length (total_text text total)
