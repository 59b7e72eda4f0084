-- The text of a line grows to the right, and what has no room is cut off.
use mathlib.Core.Path.{◌≡◌, sym, ap, ◌∙◌}
use mathlib.Core.List.{List, [], ◌++◌, append_assoc, append-nil}
use Prim.Native.Nat.{ℕ, zero, suc, ◌+◌, ◌-◌, ◌≤◌, ◌<◌, min}
use native.Mathlib.Omega.{arith}
use lib.ListN.{length, take, drop, replicate, length-take, length-append, length-replicate, replicate-append-replicate}
use lib.Seq.{take_all, take_at, take-append-add}
use borrow.Rule.Slice.PartMut.{put_mid}
use Rattle.std.proofs.lemmas.List.{take_min, take-replicate, take-append-le}
use Rattle.lists.proofs.Parts.{take_before_append}
use Rattle.written_figures.specs.Writing.{space}
use Rattle.printed.specs.declared.line.Line.{Line}
use Rattle.printed.specs.Line.{text_of, fitted, LineIs, After}

-- ---- What has room

pub fitted_before : (a b : List ℕ) → fitted (fitted a ++ b) ≡ fitted (a ++ b)
unfolding fitted
fitted_before a b = take_before_append 512 a b

pub fitted_whole : (a : List ℕ) → length a ≤ 512 → fitted a ≡ a
unfolding fitted
fitted_whole a h = take_all 512 a h

-- ---- One text after the other

pub both_after : {line next r : Line} {a b : List ℕ} → After line a next → After next b r → After line (a ++ b) r
both_after {line} {next} {r} {a} {b} first second = record {
  is = second.is
      ∙ ap (λ text. fitted (text ++ b)) first.is
      ∙ fitted_before (text_of line ++ a) b
      ∙ ap fitted (append_assoc (text_of line) a b);
}

pub line_after : {line r : Line} {a b : List ℕ} → LineIs a line → After line b r → LineIs (a ++ b) r
line_after {line} {r} {a} {b} first second = record { is = second.is ∙ ap (λ text. fitted (text ++ b)) first.is ∙ fitted_before a b }

pub nothing_after : (line : Line) → length line.bytes ≡ 512 → After line [] line
nothing_after line size = record {
  is = sym (fitted_whole (text_of line) (omega (arith, length-take line.length line.bytes))) ∙ ap fitted (sym (append-nil (text_of line)));
}

-- ---- What is put into a line

-- as much of a text as has room, put where the line ends
module _ (line : Line) (text : List ℕ) (start count : ℕ) where
  abbrev front : List ℕ
  front = take start line.bytes

  front_is : length line.bytes ≡ 512 → start ≡ min line.length 512 → front ≡ text_of line
  front_is size start_is = ap (λ n. take n line.bytes) (start_is ∙ ap (min line.length) (sym size)) ∙ take_min line.length line.bytes

  front_length : length line.bytes ≡ 512 → start ≡ min line.length 512 → length front ≡ start
  front_length size start_is = omega (arith, length-take start line.bytes)

  part_is : count ≡ min (512 - start) (length text) → take count text ≡ take (512 - start) text
  part_is count_is = ap (λ n. take n text) count_is ∙ take_min (512 - start) text

  all_fitted : length line.bytes ≡ 512 → start ≡ min line.length 512 → fitted (text_of line ++ text) ≡ front ++ take (512 - start) text
  unfolding fitted
  all_fitted size start_is =
      let all : 512 ≡ length front + (512 - start) = omega (arith, front_length size start_is) in
      ap (λ before. take 512 (before ++ text)) (sym (front_is size start_is))
      ∙ ap (λ n. take n (front ++ text)) all
      ∙ take-append-add front text (512 - start)

  pub text_put : (part : List ℕ) → length line.bytes ≡ 512 → start ≡ min line.length 512 → count ≡ min (512 - start) (length text) → part ≡ take count text
      → After line text (record { bytes = put_mid start (start + count - start) line.bytes part; length = start + count })
  text_put part size start_is count_is part_there =
      let rest : List ℕ = drop (start + count - start) (drop start line.bytes) in
      let long : length (front ++ part) ≡ start + count = omega (arith, length-append front part, front_length size start_is, ap length part_there, length-take count text) in
      record {
        is = ap (take (start + count)) (sym (append_assoc front part rest))
            ∙ take_at (front ++ part) rest (start + count) long
            ∙ ap (λ put. front ++ put) (part_there ∙ part_is count_is)
            ∙ sym (all_fitted size start_is);
      }

-- ---- Spaces

-- as many spaces as have room are as good as all
more_spaces : (text some : List ℕ) (more : ℕ) → (0 < more → 512 ≤ length (text ++ some)) → fitted (text ++ some) ≡ fitted (text ++ (some ++ replicate more space))
unfolding fitted
more_spaces text some zero full = rw append-nil
more_spaces text some (suc more) full =
    sym (take-append-le 512 (text ++ some) (replicate (suc more) space) (full (omega arith))) ∙ ap (take 512) (append_assoc text some (replicate (suc more) space))

spaces_fitted : (text : List ℕ) (count : ℕ) → fitted (text ++ replicate (min count 512) space) ≡ fitted (text ++ replicate count space)
spaces_fitted text count =
    let some : List ℕ = replicate (min count 512) space in
    let both : min count 512 + (count - 512) ≡ count = omega arith in
    more_spaces text some (count - 512) (λ more. omega (arith, length-append text some, length-replicate (min count 512) space))
    ∙ ap (λ spaces. fitted (text ++ spaces)) (replicate-append-replicate (min count 512) (count - 512) space ∙ ap (λ n. replicate n space) both)

pub spaces_with_room : {line r : Line} (count : ℕ) → After line (take (min count 512) (replicate 512 space)) r → After line (replicate count space) r
spaces_with_room {line} count after = record {
  is = after.is
      ∙ ap (λ spaces. fitted (text_of line ++ spaces)) (take-replicate (min count 512) 512 space (omega arith))
      ∙ spaces_fitted (text_of line) count;
}
