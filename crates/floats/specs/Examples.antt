-- Worked examples: floats, given by their bits, and the whole numbers that they are.
-- What is wanted comes from IEEE 754 and knows nothing of these definitions. The statement is proved in proofs/Examples.antt by computing it.
use Rattle.std.specs.Prelude.{◌≡◌, ℕ, ◌-◌, ◌*◌, ◌^◌, List, [], ◌∷◌, map, pos, negsuc, from_bits}
use Rattle.std.specs.Float.{binary64}
use Rattle.floats.specs.WholeNumbers.{WholeNumber, the, none, whole_number}

pub record Example : Type 0 where
  pub bits : ℕ
  pub wanted : WholeNumber

infix 70 ◌is◌
abbrev pub ◌is◌ : ℕ → WholeNumber → Example
bits is wanted = record { bits = bits; wanted = wanted }

abbrev pub examples : List Example
examples =
    4652007308841189376 is the (pos 1000)
    ∷ 13837309855095848960 is the (negsuc 2)
    -- plus zero and minus zero
    ∷ 0 is the (pos 0)
    ∷ 9223372036854775808 is the (pos 0)
    -- one half, and the smallest fraction
    ∷ 4602678819172646912 is none
    ∷ 1 is none
    -- 2^53, and the next float
    ∷ 4845873199050653696 is the (pos (2 ^ 53))
    ∷ 4845873199050653697 is the (pos 9007199254740994)
    -- 1e300, and the largest float
    ∷ 9094988921128908188 is the (pos 1000000000000000052504760255204420248704468581108159154915854115511802457988908195786371375080447864043704443832883878176942523235360430575644792184786706982848387200926575803737830233794788090059368953234970799945081119038967640880074652742780142494579258788820056842838115669472196386865459400540160)
    ∷ 9218868437227405311 is the (pos ((2 ^ 53 - 1) * 2 ^ 971))
    -- both infinities, and NaN
    ∷ 9218868437227405312 is none
    ∷ 18442240474082181120 is none
    ∷ 9221120237041090560 is none
    ∷ []

abbrev pub ExamplesHold : Type 0
ExamplesHold = map (λ (x : Example). whole_number (from_bits binary64 x.bits)) examples ≡ map (λ (x : Example). x.wanted) examples
