-- Inputs on which other readings of document 01 would differ, as a second table after E1 to E12, and unrounded reserves and allowances of one of them.
-- tools/examples.py works them too.
use Rattle.std.specs.Prelude.{List, [], ◌∷◌, ℤ, pos, neg_ℤ, replicate, set}
use Rattle.integers.specs.Fraction.{◌over◌, ◌≈◌}
use Rattle.method.specs.Triangle.{Triangle}
use Rattle.method.specs.RunOff.{U, A, unrounded_paid, unrounded_incurred, paid_allowance, incurred_allowance, method}
use Rattle.method.specs.Examples.{Example, minus, triangle, complete, ◌gives◌and◌, refused_by, with_lengths, ◌is◌, payments_1, adjustments_1, payments_4, adjustments_4, future_6, reserves_6, payments_7, adjustments_7}

abbrev pub too_large : ℤ
too_large = pos 1_000_000_001

abbrev pub least_64_bit : ℤ
least_64_bit = minus 9_223_372_036_854_775_808

-- Questions 6 and 7 both fail at (1, 1), and 6 is asked first.
abbrev pub X13 : Example
X13 = triangle (pos 3) payments_7 adjustments_7 (pos 1 ∷ pos 1 ∷ pos 1 ∷ []) (pos 2) (minus 1 ∷ []) is refused_by 6 1 1

-- four years with Y = 3: cells (1, 1), (1, 2) and (2, 1) are missing and have no weight, and rows 1 and 2 have openings
abbrev pub cut_3 : List ℤ → List ℤ → List ℤ → Triangle
cut_3 s t r = triangle (pos 4) s t (pos 0 ∷ pos 0 ∷ pos 1 ∷ pos 0 ∷ pos 1 ∷ pos 1 ∷ []) (pos 3) r

-- Openings at (1, 2) and (2, 1). Every figure is worked by tools/examples.py.
abbrev pub X14 : Example
X14 =
    cut_3 (pos 0 ∷ pos 0 ∷ pos 10 ∷ pos 5 ∷ pos 0 ∷ pos 20 ∷ pos 8 ∷ pos 30 ∷ pos 12 ∷ pos 40 ∷ [])
    (pos 0 ∷ pos 0 ∷ pos 4 ∷ minus 1 ∷ pos 0 ∷ pos 25 ∷ minus 3 ∷ pos 90 ∷ minus 10 ∷ pos 95 ∷ [])
    (pos 50 ∷ pos 60 ∷ [])
    gives pos 6_136_364 ∷ minus 1_227_273 ∷ pos 46_636_363
    ∷ pos 4_676_923 ∷ minus 1_753_846 ∷ pos 31_569_231 ∷ pos 3_587_413 ∷ minus 717_483 ∷ pos 27_264_335
    ∷ pos 11_000_000 ∷ minus 9_166_667 ∷ pos 34_833_333 ∷ pos 4_287_179 ∷ minus 1_607_692 ∷ pos 28_938_462
    ∷ pos 3_288_462 ∷ minus 657_692 ∷ pos 24_992_308 ∷ []
    and pos 0 ∷ pos 38_000_000 ∷ pos 38_000_000
    ∷ pos 6_136_364 ∷ pos 52_772_727 ∷ pos 46_636_363
    ∷ pos 8_264_336 ∷ pos 35_528_671 ∷ pos 27_264_335
    ∷ pos 18_575_641 ∷ pos 43_567_949 ∷ pos 24_992_308 ∷ []

-- Question 5 takes the whole payment list before the adjustment list.
abbrev pub X15 : Example
X15 = complete 3 (set payments_4 5 too_large) (set adjustments_4 0 (neg_ℤ too_large)) is refused_by 5 3 1

-- ten zeros, the amounts of four years
abbrev pub nothing : List ℤ
nothing = replicate 10 (pos 0)

-- Question 5 tests range and missing together at each cell: (1, 2) is missing and not 0, (1, 3) is too large.
abbrev pub X16 : Example
X16 = cut_3 (set (set nothing 1 (pos 7)) 2 too_large) nothing (pos 50 ∷ pos 60 ∷ []) is refused_by 5 1 2

-- The other way round: (1, 3) is too large, (2, 1) is missing and not 0.
abbrev pub X17 : Example
X17 = cut_3 (set (set nothing 2 too_large) 4 (pos 7)) nothing (pos 50 ∷ pos 60 ∷ []) is refused_by 5 1 3

-- Question 6 goes row by row: R(1, 3) is −1 and the opening of row 2 is −60.
abbrev pub X18 : Example
X18 = cut_3 (set nothing 2 (pos 51)) nothing (pos 50 ∷ minus 60 ∷ []) is refused_by 6 1 3

-- An opening is refused at (i, Y − i).
abbrev pub X19 : Example
X19 = cut_3 nothing nothing (minus 50 ∷ pos 60 ∷ []) is refused_by 6 1 2

-- Question 9 asks each figure of a cell. D = 1 and R = 11, so the next year's figures are eleven times S(1, 2) and T(1, 2).
abbrev pub eleven_times : ℤ → ℤ → Triangle
eleven_times payment adjustment = complete 2 (pos 0 ∷ payment ∷ pos 0 ∷ []) (pos 1 ∷ adjustment ∷ pos 11 ∷ [])

-- the payment alone is too large: 10,000,000,010 units, beside 9,999,999,999 and 0
abbrev pub X20 : Example
X20 = eleven_times (pos 909_090_910) (pos 909_090_909) is refused_by 9 2 2

-- the adjustment alone: 10,000,000,010 units, beside 9,999,999,999 and 22
abbrev pub X21 : Example
X21 = eleven_times (pos 909_090_909) (pos 909_090_910) is refused_by 9 2 2

-- the outstanding alone: 10,000,000,010 units, beside 0 and 9,999,999,999
abbrev pub X22 : Example
X22 = eleven_times (pos 0) (pos 909_090_909) is refused_by 9 2 2

-- Question 9 fails in the last row, after a row that passed.
abbrev pub late_refusal : Triangle
late_refusal = complete 3 (replicate 6 (pos 0)) (pos 1 ∷ pos 0 ∷ pos 0 ∷ pos 1 ∷ pos 999_999_999 ∷ pos 21 ∷ [])

abbrev pub X23 : Example
X23 = late_refusal is refused_by 9 3 2

-- Years out of range with wrong lists are refused by question 1, and the zeros have the lists' actual lengths.
abbrev pub X24 : Example
X24 = with_lengths 2 1 (triangle (pos 33) [] [] [] (pos 0) []) (refused_by 1 0 0)

-- The least 64-bit number is a value out of range like any other.
abbrev pub X25 : Example
X25 = with_lengths 0 3 (triangle least_64_bit [] [] [] least_64_bit []) (refused_by 1 0 0)

-- Y may not be n.
abbrev pub X26 : Example
X26 = triangle (pos 2) payments_1 adjustments_1 (pos 1 ∷ []) (pos 2) (pos 5 ∷ []) is refused_by 2 0 0

-- A future list that is one short.
abbrev pub X27 : Example
X27 = with_lengths 2 6 (complete 2 payments_1 adjustments_1) (refused_by 3 0 0)

-- A weight above 100.
abbrev pub X28 : Example
X28 = triangle (pos 3) payments_4 adjustments_4 (pos 1 ∷ pos 101 ∷ pos 1 ∷ []) (pos 1) [] is refused_by 4 1 2

-- The least 64-bit number as a payment.
abbrev pub X29 : Example
X29 = complete 2 (set payments_1 1 least_64_bit) adjustments_1 is refused_by 5 1 2

-- One year less than the fewest, with every list of its length.
abbrev pub X30 : Example
X30 = complete 1 (pos 5 ∷ []) (pos 5 ∷ []) is refused_by 1 0 0

-- The most years, and a cut of 0.
abbrev pub X31 : Example
X31 = with_lengths 0 0 (triangle (pos 32) [] [] [] (pos 0) []) (refused_by 2 0 0)

-- A weight below 0.
abbrev pub X32 : Example
X32 = triangle (pos 3) payments_4 adjustments_4 (pos 1 ∷ pos 1 ∷ minus 1 ∷ []) (pos 1) [] is refused_by 4 2 1

-- Amounts of 1,000,000,000 of either sign, an outstanding of 1,000,000,000 and a weight of 100.
abbrev pub X33 : Example
X33 =
    triangle (pos 2) (minus 1_000_000_000 ∷ pos 0 ∷ pos 1_000_000_000 ∷ []) (pos 0 ∷ minus 1_000_000_000 ∷ pos 1_000_000_000 ∷ []) (pos 100 ∷ []) (pos 1) []
    gives pos 0 ∷ pos 0 ∷ pos 0 ∷ []
    and pos 0 ∷ pos 0 ∷ pos 0 ∷ pos 0 ∷ pos 0 ∷ pos 0 ∷ []

-- A payment one below the least.
abbrev pub X34 : Example
X34 = complete 2 (set payments_1 0 (neg_ℤ too_large)) adjustments_1 is refused_by 5 1 1

-- An observed outstanding one above the greatest, and an opening.
abbrev pub X35 : Example
X35 = complete 2 (minus 1 ∷ pos 0 ∷ pos 0 ∷ []) (pos 1_000_000_000 ∷ pos 0 ∷ pos 0 ∷ []) is refused_by 6 1 1

abbrev pub X36 : Example
X36 = cut_3 nothing nothing (pos 1_000_000_000 ∷ too_large ∷ []) is refused_by 6 2 1

-- D = 1,000,000 and R = 101,596,577 units, so the next year's figures in millionths are 101,596,577 times S(1, 2) and T(1, 2).
abbrev pub many_times : ℤ → ℤ → Triangle
many_times payment adjustment = complete 2 (pos 0 ∷ payment ∷ pos 0 ∷ []) (pos 1_000_000 ∷ adjustment ∷ pos 101_596_577 ∷ [])

-- A payment one millionth above the limit of question 9: 101,596,577 × 98,428,513.
abbrev pub X37 : Example
X37 = many_times (pos 98_428_513) (pos 97_428_513) is refused_by 9 2 2

-- Questions 4 and 5 both fail, and 4 is asked first.
abbrev pub X38 : Example
X38 = triangle (pos 2) (set payments_1 0 too_large) adjustments_1 (pos 101 ∷ []) (pos 1) [] is refused_by 4 1 1

-- Questions 7 and 8 both fail, and 7 is asked first.
abbrev pub X39 : Example
X39 = triangle (pos 3) payments_7 adjustments_7 (pos 1 ∷ pos 0 ∷ pos 1 ∷ []) (pos 2) (pos 200 ∷ []) is refused_by 7 1 1

-- The last development year has no exposure.
abbrev pub X40 : Example
X40 = triangle (pos 3) payments_4 adjustments_4 (pos 1 ∷ pos 0 ∷ pos 1 ∷ []) (pos 1) [] is refused_by 8 0 2

-- A weight too few, an opening too many, a reserve list one too long.
abbrev pub X41 : Example
X41 = triangle (pos 3) payments_4 adjustments_4 (pos 1 ∷ pos 1 ∷ []) (pos 1) [] is refused_by 3 0 0

abbrev pub X42 : Example
X42 = triangle (pos 3) payments_4 adjustments_4 (pos 1 ∷ pos 1 ∷ pos 1 ∷ []) (pos 1) (pos 0 ∷ []) is refused_by 3 0 0

abbrev pub X43 : Example
X43 = with_lengths 3 7 (complete 2 payments_1 adjustments_1) (refused_by 3 0 0)

-- Questions 3 and 4 both fail, and 3 is asked first.
abbrev pub X44 : Example
X44 = triangle (pos 3) payments_4 adjustments_4 (pos 101 ∷ pos 1 ∷ []) (pos 1) [] is refused_by 3 0 0

-- Questions 8 and 9 both fail, and 8 is asked first.
abbrev pub X45 : Example
X45 = triangle (pos 3) late_refusal.payments late_refusal.adjustments (pos 1 ∷ pos 0 ∷ pos 1 ∷ []) (pos 1) [] is refused_by 8 0 2

-- Question 9 goes row by row: (2, 3) and (3, 2) are both too large.
abbrev pub X46 : Example
X46 = complete 3 (replicate 6 (pos 0)) (pos 1 ∷ pos 0 ∷ pos 999_999_999 ∷ pos 1 ∷ pos 30 ∷ pos 1_000_000_000 ∷ []) is refused_by 9 2 3

-- Ten times S(1, 2) and T(1, 2): a payment and an adjustment exactly at the limit of question 9, of either sign.
abbrev pub ten_times : ℤ → Triangle
ten_times amount = complete 2 (pos 0 ∷ amount ∷ pos 0 ∷ []) (pos 1 ∷ amount ∷ pos 10 ∷ [])

abbrev pub X47 : Example
X47 =
    ten_times (pos 1_000_000_000)
    gives pos 10_000_000_000_000_000 ∷ pos 10_000_000_000_000_000 ∷ pos 10_000_000 ∷ []
    and pos 0 ∷ pos 1_000_000 ∷ pos 1_000_000 ∷ pos 10_000_000_000_000_000 ∷ pos 10_000_000_010_000_000 ∷ pos 10_000_000 ∷ []

abbrev pub X48 : Example
X48 =
    ten_times (minus 1_000_000_000)
    gives minus 10_000_000_000_000_000 ∷ minus 10_000_000_000_000_000 ∷ pos 10_000_000 ∷ []
    and pos 0 ∷ pos 1_000_000 ∷ pos 1_000_000 ∷ minus 10_000_000_000_000_000 ∷ minus 9_999_999_990_000_000 ∷ pos 10_000_000 ∷ []

-- The size of a negative payment, and of a negative adjustment, is too large.
abbrev pub X49 : Example
X49 = eleven_times (minus 909_090_910) (minus 909_090_909) is refused_by 9 2 2

abbrev pub X50 : Example
X50 = eleven_times (minus 909_090_909) (minus 909_090_910) is refused_by 9 2 2

-- Negative years and a negative cut are not taken for their sizes.
abbrev pub X51 : Example
X51 = triangle (minus 3) payments_4 adjustments_4 (pos 1 ∷ pos 1 ∷ pos 1 ∷ []) (pos 1) [] is refused_by 1 0 0

abbrev pub X52 : Example
X52 = triangle (pos 2) payments_1 adjustments_1 (pos 1 ∷ []) (minus 1) [] is refused_by 2 0 0

-- E4 with weights 2, 1 and 3: a weight counts as it is, not squared, not for yes or no, and w(i, k) is not w(k, i).
abbrev pub weights_53 : List ℤ
weights_53 = pos 2 ∷ pos 1 ∷ pos 3 ∷ []

abbrev pub X53 : Example
X53 =
    triangle (pos 3) payments_4 adjustments_4 weights_53 (pos 1) []
    gives pos 96_000_000 ∷ minus 144_000_000 ∷ pos 0
    ∷ pos 60_000_000 ∷ pos 1_538_462 ∷ pos 141_538_462 ∷ pos 56_615_385 ∷ minus 84_923_077 ∷ pos 0 ∷ []
    and pos 0 ∷ pos 0 ∷ pos 0
    ∷ pos 96_000_000 ∷ pos 96_000_000 ∷ pos 0
    ∷ pos 116_615_385 ∷ pos 116_615_385 ∷ pos 0 ∷ []

-- The same with S(1, 3) = −40: a negative payment raises the outstanding. Its unrounded reserves and its allowances stand below the table.
abbrev pub X54 : Example
X54 =
    triangle (pos 3) (set payments_4 2 (minus 40)) adjustments_4 weights_53 (pos 1) []
    gives minus 96_000_000 ∷ minus 144_000_000 ∷ pos 192_000_000
    ∷ pos 60_000_000 ∷ pos 1_538_462 ∷ pos 141_538_462 ∷ minus 56_615_385 ∷ minus 84_923_077 ∷ pos 113_230_770 ∷ []
    and pos 0 ∷ pos 80_000_000 ∷ pos 80_000_000
    ∷ minus 96_000_000 ∷ pos 96_000_000 ∷ pos 192_000_000
    ∷ pos 3_384_615 ∷ pos 116_615_385 ∷ pos 113_230_770 ∷ []

-- Shares of exactly −7,812.5 and 39,062.5 millionths, by ratios −1 / 384 and 5 / 384 that no number of places holds.
abbrev pub X55 : Example
X55 =
    complete 2 (pos 0 ∷ minus 1 ∷ pos 0 ∷ []) (pos 384 ∷ pos 5 ∷ pos 3 ∷ [])
    gives minus 7_812 ∷ pos 39_063 ∷ pos 3_046_875 ∷ []
    and pos 0 ∷ pos 390_000_000 ∷ pos 390_000_000 ∷ minus 7_812 ∷ pos 3_039_063 ∷ pos 3_046_875 ∷ []

-- Both products, R × P and R × Q, pass 64 bits; that is no ground for a refusal.
abbrev pub X56 : Example
X56 =
    complete 2 (pos 0 ∷ pos 400_000_000 ∷ pos 0 ∷ []) (pos 1_000_000_000 ∷ minus 500_000_000 ∷ pos 1_000_000_000 ∷ [])
    gives pos 400_000_000_000_000 ∷ minus 500_000_000_000_000 ∷ pos 100_000_000_000_000 ∷ []
    and pos 0 ∷ pos 100_000_000_000_000 ∷ pos 100_000_000_000_000
    ∷ pos 400_000_000_000_000 ∷ pos 500_000_000_000_000 ∷ pos 100_000_000_000_000 ∷ []

-- An adjustment alone one millionth above the limit of question 9, an outstanding alone, and a negative payment alone.
abbrev pub X57 : Example
X57 = many_times (pos 97_428_513) (pos 98_428_513) is refused_by 9 2 2

abbrev pub X58 : Example
X58 = many_times (pos 0) (pos 97_428_513) is refused_by 9 2 2

abbrev pub X59 : Example
X59 = many_times (minus 98_428_513) (minus 97_428_513) is refused_by 9 2 2

-- Question 9 fails in the second projected year of a row, after a first that passed.
abbrev pub X60 : Example
X60 = complete 3 (replicate 6 (pos 0)) (pos 1 ∷ pos 0 ∷ pos 999_999_999 ∷ pos 1 ∷ pos 0 ∷ pos 11 ∷ []) is refused_by 9 3 3

-- Question 9 goes year by year, not figure by figure: the outstanding of (3, 2) and the payment of (3, 3) are too large.
abbrev pub X61 : Example
X61 = complete 3 (set (replicate 6 (pos 0)) 2 (pos 2)) (pos 1 ∷ pos 0 ∷ pos 1 ∷ pos 1 ∷ pos 999_999_999 ∷ pos 20 ∷ []) is refused_by 9 3 2

-- Each list alone of a wrong length: a payment too few and too many.
abbrev pub X62 : Example
X62 = complete 2 (pos 100 ∷ pos 60 ∷ []) adjustments_1 is refused_by 3 0 0

abbrev pub X63 : Example
X63 = complete 2 (pos 100 ∷ pos 60 ∷ pos 50 ∷ pos 0 ∷ []) adjustments_1 is refused_by 3 0 0

-- an adjustment too few and too many
abbrev pub X64 : Example
X64 = complete 2 payments_1 (pos 200 ∷ minus 40 ∷ []) is refused_by 3 0 0

abbrev pub X65 : Example
X65 = complete 2 payments_1 (pos 200 ∷ minus 40 ∷ pos 130 ∷ pos 0 ∷ []) is refused_by 3 0 0

-- a weight too many, an opening too few, a future list one too long and a reserve list one short
abbrev pub X66 : Example
X66 = triangle (pos 3) payments_4 adjustments_4 (replicate 4 (pos 1)) (pos 1) [] is refused_by 3 0 0

abbrev pub X67 : Example
X67 = triangle (pos 3) payments_7 adjustments_7 (pos 0 ∷ pos 1 ∷ pos 1 ∷ []) (pos 2) [] is refused_by 3 0 0

abbrev pub X68 : Example
X68 = with_lengths 4 6 (complete 2 payments_1 adjustments_1) (refused_by 3 0 0)

abbrev pub X69 : Example
X69 = with_lengths 3 5 (complete 2 payments_1 adjustments_1) (refused_by 3 0 0)

-- Question 4 goes row by row: (1, 2) is too large and (2, 1) below 0.
abbrev pub X70 : Example
X70 = triangle (pos 3) payments_4 adjustments_4 (pos 1 ∷ pos 101 ∷ minus 1 ∷ []) (pos 1) [] is refused_by 4 1 2

-- Question 5 asks the adjustments row by row too: (1, 2) is too large and (2, 1) too small.
abbrev pub X71 : Example
X71 = complete 3 payments_4 (set (set adjustments_4 1 too_large) 3 (neg_ℤ too_large)) is refused_by 5 1 2

-- An adjustment one below the least, in the last row.
abbrev pub X72 : Example
X72 = complete 3 payments_4 (set adjustments_4 5 (neg_ℤ too_large)) is refused_by 5 3 1

-- A missing payment below 0, and a missing adjustment that is not 0.
abbrev pub X73 : Example
X73 = cut_3 (set nothing 1 (minus 7)) nothing (pos 50 ∷ pos 60 ∷ []) is refused_by 5 1 2

abbrev pub X74 : Example
X74 = cut_3 nothing (set nothing 4 (pos 7)) (pos 50 ∷ pos 60 ∷ []) is refused_by 5 2 1

-- Question 6 asks the last observed year too, also of the youngest accident year: R(3, 1) is −1.
abbrev pub X75 : Example
X75 = complete 3 payments_4 (set adjustments_4 5 (pos 49)) is refused_by 6 3 1

-- E7 with an opening of 0, and E6 with R(1, 1) = 0: R(1, 2) is 100 as before, and the answer is theirs.
abbrev pub X76 : Example
X76 = triangle (pos 3) payments_7 (set adjustments_7 1 (pos 160)) (pos 0 ∷ pos 1 ∷ pos 1 ∷ []) (pos 2) (pos 0 ∷ []) gives future_6 and reserves_6

abbrev pub X77 : Example
X77 = triangle (pos 3) payments_4 (set (set adjustments_4 0 (pos 100)) 1 (pos 160)) (pos 0 ∷ pos 1 ∷ pos 1 ∷ []) (pos 1) [] gives future_6 and reserves_6

-- Four years with Y = 3, where question 7 asks (1, 1), (1, 2) and (2, 1), row by row.
abbrev pub weights_of_cut_3 : List ℤ → Triangle
weights_of_cut_3 w = triangle (pos 4) nothing nothing w (pos 3) (pos 50 ∷ pos 60 ∷ [])

-- (2, 1) alone has a weight
abbrev pub X78 : Example
X78 = weights_of_cut_3 (pos 0 ∷ pos 0 ∷ pos 1 ∷ pos 1 ∷ pos 1 ∷ pos 1 ∷ []) is refused_by 7 2 1

-- (1, 2) and (2, 1) have one
abbrev pub X79 : Example
X79 = weights_of_cut_3 (pos 0 ∷ pos 1 ∷ pos 1 ∷ pos 1 ∷ pos 1 ∷ pos 1 ∷ []) is refused_by 7 1 2

-- Without any weight no development year has exposure, and the first decides.
abbrev pub X80 : Example
X80 = triangle (pos 3) payments_4 adjustments_4 (replicate 3 (pos 0)) (pos 1) [] is refused_by 8 0 1

-- Each year goes on from the rounded outstanding, and a reserve adds rounded movements: 1,000,001 is paid in accident year 3, where the unrounded method has 1,000,000.
abbrev pub X81 : Example
X81 =
    complete 3 (pos 0 ∷ pos 1 ∷ pos 2 ∷ pos 0 ∷ pos 0 ∷ pos 0 ∷ []) (pos 3 ∷ minus 1 ∷ pos 2 ∷ pos 0 ∷ pos 0 ∷ pos 1 ∷ [])
    gives pos 0 ∷ pos 0 ∷ pos 0
    ∷ pos 333_333 ∷ minus 333_333 ∷ pos 333_334 ∷ pos 666_668 ∷ pos 666_668 ∷ pos 333_334 ∷ []
    and pos 0 ∷ pos 1_000_000 ∷ pos 1_000_000
    ∷ pos 0 ∷ pos 0 ∷ pos 0
    ∷ pos 1_000_001 ∷ pos 1_333_335 ∷ pos 333_334 ∷ []

-- Of four years, a development year in the middle has no exposure.
abbrev pub X82 : Example
X82 =
    triangle (pos 4) nothing (set (set (set (set nothing 0 (pos 10)) 4 (pos 10)) 7 (pos 10)) 9 (pos 10)) (pos 1 ∷ pos 0 ∷ pos 1 ∷ pos 1 ∷ pos 0 ∷ pos 1 ∷ []) (pos 1) []
    is refused_by 8 0 2

-- Four years in which only accident year 1 moves: its outstanding is 1, 1, 1,000,000,000 and 0, by half paid and half taken back in its last year.
abbrev pub middle_year : List ℤ → Triangle
middle_year younger = complete 4 (set nothing 3 (pos 500_000_000)) (pos 1 ∷ pos 0 ∷ pos 999_999_999 ∷ minus 500_000_000 ∷ pos 0 ∷ pos 0 ∷ pos 0 ∷ younger)

-- Question 9 asks a year between the first and the last of a row: (4, 3) alone is too large.
abbrev pub X83 : Example
X83 = middle_year (pos 0 ∷ pos 0 ∷ pos 11 ∷ []) is refused_by 9 4 3

-- It asks a row between the second and the last: (3, 3) alone is too large.
abbrev pub X84 : Example
X84 = middle_year (pos 11 ∷ pos 0 ∷ pos 0 ∷ []) is refused_by 9 3 3

abbrev pub X13_to_X84 : List Example
X13_to_X84 =
    X13 ∷ X14 ∷ X15 ∷ X16 ∷ X17 ∷ X18 ∷ X19 ∷ X20 ∷ X21 ∷ X22 ∷ X23 ∷ X24 ∷ X25 ∷ X26
    ∷ X27 ∷ X28 ∷ X29 ∷ X30 ∷ X31 ∷ X32 ∷ X33 ∷ X34 ∷ X35 ∷ X36 ∷ X37 ∷ X38 ∷ X39
    ∷ X40 ∷ X41 ∷ X42 ∷ X43 ∷ X44 ∷ X45 ∷ X46 ∷ X47 ∷ X48 ∷ X49 ∷ X50 ∷ X51 ∷ X52
    ∷ X53 ∷ X54 ∷ X55 ∷ X56 ∷ X57 ∷ X58 ∷ X59 ∷ X60 ∷ X61 ∷ X62 ∷ X63 ∷ X64 ∷ X65 ∷ X66
    ∷ X67 ∷ X68 ∷ X69 ∷ X70 ∷ X71 ∷ X72 ∷ X73 ∷ X74 ∷ X75 ∷ X76 ∷ X77 ∷ X78 ∷ X79 ∷ X80
    ∷ X81 ∷ X82 ∷ X83 ∷ X84 ∷ []

-- ---- The unrounded method, and an allowance by a negative payment ratio

-- The unrounded reserves of accident year 3 of X54, in millionths: its outstanding goes from 200,000,000 over 1,840,000,000 / 13 to 1,472,000,000 / 13.
abbrev pub X54Unrounded : Type 0
X54Unrounded =
    (unrounded_paid (method X54.triangle) 3 ≈ pos 44_000_000 over pos 13)
    × (unrounded_incurred (method X54.triangle) 3 ≈ pos 1_516_000_000 over pos 13)
    × (U (method X54.triangle) 3 3 ≈ pos 1_472_000_000 over pos 13)

-- The allowances of the same year: 0.5 + 0.9 for the paid reserve, 0.5 + 1.1 for the incurred reserve, and 0.8 + 1 for the closing.
abbrev pub X54Allowances : Type 0
X54Allowances =
    (paid_allowance (method X54.triangle) 3 ≈ pos 14 over pos 10)
    × (incurred_allowance (method X54.triangle) 3 ≈ pos 16 over pos 10)
    × (A (method X54.triangle) 3 3 ≈ pos 18 over pos 10)
