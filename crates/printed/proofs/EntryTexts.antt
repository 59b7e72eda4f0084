-- Entries one after the other.
use mathlib.Core.Path.{◌≡◌}
use mathlib.Core.List.{List}
use Prim.Native.Nat.{ℕ, suc, ◌+◌, ◌-◌, ◌≤◌, ◌<◌}
use native.Mathlib.Numerals.{add-one}
use native.Mathlib.Omega.{arith}
use lib.ListN.{length}
use Rattle.printed.specs.declared.line.Line.{Line}
use Rattle.printed.specs.Line.{After}
use Rattle.printed.proofs.LineTexts.{both_after, nothing_after}
use Rattle.printed.specs.Entries.{entry, entries_after}

module _ (text : ℕ → List ℕ) (column : ℕ) where
  pub one_entry_more : {line next r : Line} (k last : ℕ) → k < last → After line (entry column (text (k + 1))) next
      → After next (entries_after text column (k + 1) (last - (k + 1))) r → After line (entries_after text column k (last - k)) r
  unfolding entries_after
  one_entry_more {line} {next} {r} k last h first second =
      let more : last - k ≡ suc (last - (k + 1)) = omega arith in
      rw (more, add-one k) (rw (add-one k) at (both_after first second))

  pub no_entry_more : {line : Line} (k last : ℕ) → last ≤ k → length line.bytes ≡ 512 → After line (entries_after text column k (last - k)) line
  unfolding entries_after
  no_entry_more {line} k last h size =
      let none : last - k ≡ 0 = omega arith in
      rw none (nothing_after line size)
