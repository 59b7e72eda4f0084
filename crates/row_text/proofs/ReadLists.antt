-- Numbers that are read into a list, whatever may be wrong with them.
use mathlib.Core.Path.{◌≡◌, refl, sym, ap, ◌∙◌}
use mathlib.Core.List.{List, [], ◌++◌, append_assoc}
use Prim.Native.Nat.{ℕ, ◌+◌, ◌≤◌}
use native.Mathlib.Nat.{zero-add}
use lib.IntN.{ℤ}
use native.Mathlib.Omega.{arith}
use lib.ListN.{length, take, length-take}
use lib.Seq.{length-take-le}
use Rattle.std.specs.Prelude.{Result, Ok, Err}
use Rattle.row_text.specs.Rows.{with_numbers, counted_from, ReadAs}

module _ {E : Type 0} where
  pub with_no_numbers : (meaning : Result (List ℤ) E) → with_numbers [] meaning ≡ meaning
  with_no_numbers (Ok later) = refl
  with_no_numbers (Err wrong) = refl

  pub with_numbers_twice : (first second : List ℤ) (meaning : Result (List ℤ) E)
      → with_numbers first (with_numbers second meaning) ≡ with_numbers (first ++ second) meaning
  with_numbers_twice first second (Ok later) = ap Ok (sym (append_assoc first second later))
  with_numbers_twice first second (Err wrong) = refl

  -- ---- What is known of the numbers

  module _ {meaning : Result (List ℤ) E} {r : Result ℕ E} where
    pub read_wrong : {wrong : E} (list : List ℤ) → meaning ≡ Err wrong → r ≡ Err wrong → ReadAs meaning r list
    read_wrong list means is = record { read_is = is ∙ sym (ap (counted_from 0) means); numbers_are = λ others n. cc }

    pub read_right : {count : ℕ} (list : List ℤ) → count ≤ length list → meaning ≡ Ok (take count list) → r ≡ Ok count → ReadAs meaning r list
    read_right {count} list within means is =
        let long = length-take-le count list within in
        record {
          read_is = is ∙ ap Ok (sym long ∙ sym (zero-add (length (take count list)))) ∙ sym (ap (counted_from 0) means);
          numbers_are = λ others n.
              let same : take count list ≡ others = cc in
              ap (λ size. take size list) (sym (ap length same) ∙ long) ∙ same;
        }

  -- ---- What an answer tells

  module _ {others : List ℤ} {r : Result ℕ E} {list : List ℤ} (answer : ReadAs (Ok others) r list) where
    pub count_is : r ≡ Ok (length others)
    count_is = answer.read_is ∙ ap Ok (zero-add (length others))

    pub count_within : length others ≤ length list
    count_within = omega (arith, ap length (answer.numbers_are others refl), length-take (length others) list)

  pub right_within : (meaning : Result (List ℤ) E) {r : Result ℕ E} {list : List ℤ} {count : ℕ} → ReadAs meaning r list → r ≡ Ok count → count ≤ length list
  right_within (Ok others) {count = count} answer e =
      let told = answer.read_is in
      let same : count ≡ 0 + length others = cc in
      omega (arith, count_within answer)
  right_within (Err wrong) answer e = let told = answer.read_is in let z : ◌≡◌ {A = ℕ} 0 1 = cc in absurd (omega arith)

  pub right_is : (meaning : Result (List ℤ) E) {r : Result ℕ E} {list : List ℤ} {count : ℕ} → ReadAs meaning r list → r ≡ Ok count → meaning ≡ Ok (take count list)
  right_is (Ok others) {list = list} {count = count} answer e =
      let told = count_is answer in
      let same : length others ≡ count = cc in
      ap Ok (sym (answer.numbers_are others refl) ∙ ap (λ size. take size list) same)
  right_is (Err wrong) answer e = let told = answer.read_is in let z : ◌≡◌ {A = ℕ} 0 1 = cc in absurd (omega arith)

  pub wrong_is : (meaning : Result (List ℤ) E) {r : Result ℕ E} {list : List ℤ} {wrong : E} → ReadAs meaning r list → r ≡ Err wrong → meaning ≡ Err wrong
  wrong_is (Ok others) answer e = let told = answer.read_is in let z : ◌≡◌ {A = ℕ} 0 1 = cc in absurd (omega arith)
  wrong_is (Err other) answer e = let told = answer.read_is in cc
