-- The four lists of a text, each read as a block, and the first fault of them.
use mathlib.Core.Path.{◌≡◌, refl, sym, ap, ◌∙◌}
use mathlib.Core.Bool.{Bool, true, false, ◌&&◌, cond}
use mathlib.Core.List.{List, []}
use Prim.Native.Nat.{ℕ, ◌+◌, ◌*◌, ◌≤◌}
use native.Mathlib.Nat.{mul-le-mul_left, mul-le-mul_right}
use native.Mathlib.Omega.{arith}
use lib.Dec.{eqb}
use lib.IntN.{ℤ, pos, nat_abs}
use lib.ListN.{length, get_or, take, drop, length-drop, length-take}
use lib.Seq.{length-take-le}
use mir.Syntax.{w64}
use mir.Val.{SFits}
use Rattle.std.specs.Prelude.{Result, Ok, Err, IfOk}
use Rattle.integers.proofs.RingSolver.{con}
use Rattle.integers.proofs.LinearFacts.{fits_by}
use Rattle.text.specs.Bytes.{longest_text}
use Rattle.text.specs.Lines.{lines}
use Rattle.line_parts.specs.Cells.{separator_of}
use Rattle.heading_faults.specs.Faults.{heading_fault}
use Rattle.heading_faults.specs.declared.WrongLine.{WrongLine}
use Rattle.method.specs.Limits.{most_accident_years}
use Rattle.method.specs.Triangle.{amounts_length}
use Rattle.method.specs.Verdicts.{ask}
use Rattle.method.specs.Tests.{years_in_range, cut_in_range}
use Rattle.method.specs.Questions.{question_1, question_2}
use Rattle.method.proofs.Tests.{and-true}
use Rattle.method.proofs.QuestionFacts.{YearsInRange, CutInRange, years_accepted, cut_accepted}
use Rattle.blocks.specs.Blocks.{Block, of_heading}
use Rattle.blocks.specs.declared.faults.Fault.{Fault}
use Rattle.triangle_text.specs.Reading.{lists_wanted, Lists, Reading, triangle, malformed, then_read, counted, as_many, asked_in, lists_in, with_headings, reading_of, without_mark, reading, TextReadAs, Within}
use Rattle.triangle_text.specs.declared.reading.Asked.{Asked}
use Rattle.triangle_text.specs.declared.reading.TextRead.{TextRead}

-- ---- The number of accident years and the cut, where lists are read

pub wanted : (years cut : ℤ) → lists_wanted years cut ≡ true → YearsInRange years × CutInRange cut (nat_abs years)
unfolding lists_wanted question_1 question_2 ask
wanted years cut e =
    let both = and-true (years_in_range years) (cut_in_range years cut) e in
    let counted = years_accepted years (rw both.0) in
    (counted, cut_accepted years cut counted (rw both.1))

pub counted_fits : (z : ℤ) → z ≡ pos (nat_abs z) → nat_abs z ≤ most_accident_years → SFits w64 z
counted_fits z counted few = rw counted (fits_by w64 (con (pos (nat_abs z))) (omega arith))

-- there is room for the rows of fewer years where there is room for more
pub amounts_fit : (n most : ℕ) → n ≤ most → amounts_length n ≤ amounts_length most
amounts_fit n most few =
    let wide = mul-le-mul_right (n + 1) few in
    let high : most * (n + 1) ≤ most * (most + 1) = mul-le-mul_left most (omega arith) in
    omega arith

-- ---- What is known of a text

module _ {meaning : Reading} {r : Result TextRead Fault} {payments adjustments weights openings : List ℤ} where
  pub text_wrong : {fault : Fault} → meaning ≡ malformed fault.line fault.cell fault.expected → r ≡ Err fault → TextReadAs meaning r payments adjustments weights openings
  text_wrong means is = record { read_is = is ∙ sym (ap counted means); lists_are = λ asked lists e. cc }

  -- the numbers from the left of each list
  pub text_right : {asked : Asked} {lists : Lists} → meaning ≡ triangle asked lists → r ≡ counted (triangle asked lists)
      → as_many lists payments adjustments weights openings ≡ lists → TextReadAs meaning r payments adjustments weights openings
  text_right {asked} {lists} means is read = record {
    read_is = is ∙ sym (ap counted means);
    lists_are = λ other others e. let same : triangle asked lists ≡ triangle other others = sym means ∙ e in let lists_same : lists ≡ others = cc in
        rw lists_same at read;
  }

-- no list is read beyond its end
pub lists_within : (meaning : Reading) (r : Result TextRead Fault) {payments adjustments weights openings : List ℤ}
    → TextReadAs meaning r payments adjustments weights openings → IfOk r (λ read. Within read payments adjustments weights openings)
lists_within meaning (Err fault) answer = tt
lists_within (malformed line cell expected) (Ok read) answer = let told = answer.read_is in cc
lists_within (triangle asked lists) (Ok read) {payments} {adjustments} {weights} {openings} answer =
    let told = answer.read_is in
    let same : read ≡ record { asked = asked; payments = length lists.payments; adjustments = length lists.adjustments; weights = length lists.weights; openings = length lists.openings } = cc in
    let lists_are = answer.lists_are asked lists refl in
    rw same (record {
      payments_within = omega (arith, ap (λ (l : Lists). length l.payments) lists_are, length-take (length lists.payments) payments);
      adjustments_within = omega (arith, ap (λ (l : Lists). length l.adjustments) lists_are, length-take (length lists.adjustments) adjustments);
      weights_within = omega (arith, ap (λ (l : Lists). length l.weights) lists_are, length-take (length lists.weights) weights);
      openings_within = omega (arith, ap (λ (l : Lists). length l.openings) lists_are, length-take (length lists.openings) openings);
    })

-- ---- The four lists

module _ (asked : Asked) where
  -- the lists of four blocks, or the first fault of them
  abbrev pub of_blocks : Block → Block → Block → Block → Reading
  of_blocks paid adjusted weighted opened =
      then_read paid (λ payments. then_read adjusted (λ adjustments. then_read weighted (λ weights. then_read opened (λ openings.
      triangle asked record { payments = payments; adjustments = adjustments; weights = weights; openings = openings }))))

  pub all_read : {paid adjusted weighted opened : Block} {ps as' ws os : List ℤ} (p a w o : ℕ)
      → paid ≡ Ok (take p ps) → adjusted ≡ Ok (take a as') → weighted ≡ Ok (take w ws) → opened ≡ Ok (take o os)
      → p ≤ length ps → a ≤ length as' → w ≤ length ws → o ≤ length os
      → TextReadAs (of_blocks paid adjusted weighted opened) (Ok record { asked = asked; payments = p; adjustments = a; weights = w; openings = o }) ps as' ws os
  all_read {paid} {adjusted} {weighted} {opened} {ps} {as'} {ws} {os} p a w o paid_is adjusted_is weighted_is opened_is pl al wl ol =
      let long_p : length (take p ps) ≡ p = length-take-le p ps pl in
      let long_a : length (take a as') ≡ a = length-take-le a as' al in
      let long_w : length (take w ws) ≡ w = length-take-le w ws wl in
      let long_o : length (take o os) ≡ o = length-take-le o os ol in
      text_right {asked = asked} {lists = record { payments = take p ps; adjustments = take a as'; weights = take w ws; openings = take o os }}
      (rw (paid_is, adjusted_is, weighted_is, opened_is)) (rw (long_p, long_a, long_w, long_o)) (rw (long_p, long_a, long_w, long_o))

-- ---- The whole text

without_mark_short : (bytes : List ℕ) → length (without_mark bytes) ≤ length bytes
unfolding without_mark
without_mark_short bytes = go (eqb (get_or bytes 0 0) 239 && eqb (get_or bytes 1 0) 187 && eqb (get_or bytes 2 0) 191)
  where
    go : (marked : Bool) → length (cond marked (drop 3 bytes) bytes) ≤ length bytes
    go true = omega (arith, length-drop 3 bytes)
    go false = omega arith

-- a text without its mark is short too
pub text_short : (bytes text : List ℕ) → text ≡ without_mark bytes → length bytes ≤ longest_text → length text ≤ longest_text
text_short bytes text is short = omega (arith, ap length is, without_mark_short bytes)

module _ (bytes text : List ℕ) (is : text ≡ without_mark bytes) (separator : ℕ) (parted : separator ≡ separator_of text) where
  is_reading : reading_of separator (lines text) ≡ reading bytes
  unfolding reading
  is_reading = rw (parted, is)

  -- the headings have a fault
  pub faulty_headings : {wrong : WrongLine} {r : Result TextRead Fault} {payments adjustments weights openings : List ℤ}
      → heading_fault separator (lines text) ≡ Err wrong → r ≡ Err (of_heading wrong)
      → TextReadAs (reading bytes) r payments adjustments weights openings
  unfolding reading_of
  faulty_headings {wrong} e answer = text_wrong {fault = of_heading wrong} (sym is_reading ∙ rw e) answer

  module _ {asked : Asked} (told : asked ≡ asked_in separator (lines text)) (right : heading_fault separator (lines text) ≡ Ok tt) where
    right_headings : with_headings separator (lines text) asked ≡ reading bytes
    unfolding reading_of
    right_headings = rw told (sym (rw right at (sym is_reading)))

    -- questions 1 and 2 refuse
    pub no_lists_wanted : {r : Result TextRead Fault} {payments adjustments weights openings : List ℤ} → lists_wanted asked.years asked.cut ≡ false
        → r ≡ Ok record { asked = asked; payments = 0; adjustments = 0; weights = 0; openings = 0 } → TextReadAs (reading bytes) r payments adjustments weights openings
    unfolding with_headings
    no_lists_wanted e answer =
        text_right {asked = asked} {lists = record { payments = []; adjustments = []; weights = []; openings = [] }} (sym right_headings ∙ rw e) answer refl

    pub lists_read : {r : Result TextRead Fault} {payments adjustments weights openings : List ℤ} → lists_wanted asked.years asked.cut ≡ true
        → TextReadAs (lists_in separator (lines text) asked (nat_abs asked.years) (nat_abs asked.cut)) r payments adjustments weights openings
        → TextReadAs (reading bytes) r payments adjustments weights openings
    unfolding with_headings
    lists_read e answer = rw (rw e at right_headings) at answer
