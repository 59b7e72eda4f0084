-- Each answer is told by a law of the tests that lead to it; in the exact range the cut and its cast back lose nothing.
use Rattle.std.proofs.Common.{◌≡◌, Bool, true, T, ℤ, sym, ap, ◌∙◌, subst, to_z-of_z, w64, to_z, of_z, Ok}
use lib.Ieee.{eq, neg, of_bits, binary64, in_float, to_signed}
use Rattle.floats.specs.WholeNumbers.{float_of}
use Rattle.floats.specs.Reading.{exact_range}
use Rattle.floats.proofs.ExactFloats.{cast_exact}
use Rattle.floats.proofs.WholeFloats.{told_not_finite, told_larger, told_fraction, told_by_cut, cut_allowed, cut_exact}
use Rattle.floats.proofs.any_whole_number.Goals as goal
use Rattle.floats.proofs.any_whole_number.Goals.{After-truncating_f64_to_i64-cut, Else-not-is_within}

pub returns-then-not-is_finite : goal.returns-then-not-is_finite
returns-then-not-is_finite c = told_not_finite c.args.x (sym c.is_finite.ensures.value ∙ c.if-not-is_finite.true)

pub returns-then-not-is_within : goal.returns-then-not-is_within
unfolding neg of_bits
returns-then-not-is_within c =
    told_larger c.args.x c.well_formed.0.1
    (sym c.is_finite.ensures.value ∙ c.if-not-is_finite.false)
    (sym c.is_within.ensures ∙ c.if-not-is_within.true)

-- ---- In the exact range, whose ends are the two literals

in_range : (c : Else-not-is_within) → exact_range c.args.x ≡ true
unfolding neg of_bits
in_range c = sym c.is_within.ensures ∙ c.if-not-is_within.false

pub truncating_f64_to_i64-cut-requires : goal.truncating_f64_to_i64-cut-requires
truncating_f64_to_i64-cut-requires c =
    let allowed = cut_allowed c.args.x (in_range (goal.at.truncating_f64_to_i64-cut-requires c).Else-not-is_within) in
    record { lower_bound = allowed.0; upper_bound = allowed.1 }

abbrev cut_of : After-truncating_f64_to_i64-cut → ℤ
cut_of c = to_z w64 (of_z w64 c.truncating_f64_to_i64-cut.result)

cut_is : (c : After-truncating_f64_to_i64-cut) → cut_of c ≡ to_signed 63 c.args.x
cut_is c = to_z-of_z {w = w64} (record { sfits = c.truncating_f64_to_i64-cut.type_inv }) ∙ c.truncating_f64_to_i64-cut.ensures

abbrev same_as_cut : After-truncating_f64_to_i64-cut → Bool
same_as_cut c = eq (float_of (cut_of c)) c.args.x

by_cut : (c : After-truncating_f64_to_i64-cut) → eq (float_of (to_signed 63 c.args.x)) c.args.x ≡ same_as_cut c
by_cut c = ap (λ (z : ℤ). eq (float_of z) c.args.x) (sym (cut_is c))

pub int_to_float-cut : goal.int_to_float-cut
int_to_float-cut c =
    let x = c.args.x in
    let at = goal.at.int_to_float-cut c in
    subst (λ (z : ℤ). T (in_float binary64 z)) (sym (cut_is at.After-truncating_f64_to_i64-cut)) (cast_exact (to_signed 63 x) (cut_exact x (in_range at.Else-not-is_within)))

pub returns-then-not-cut-x : goal.returns-then-not-cut-x
returns-then-not-cut-x c =
    let at = goal.at.returns-then-not-cut-x c in
    told_fraction c.args.x (in_range at.Else-not-is_within) (by_cut at.After-truncating_f64_to_i64-cut ∙ c.if-not-cut-x.true)

pub returns : goal.returns
returns c =
    let at = goal.at.returns c in
    ap Ok (cut_is at.After-truncating_f64_to_i64-cut)
    ∙ told_by_cut c.args.x (in_range at.Else-not-is_within) (by_cut at.After-truncating_f64_to_i64-cut ∙ c.if-not-cut-x.false)
