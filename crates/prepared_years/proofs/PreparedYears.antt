-- Development years prepared one after another, and the sums that they were prepared from.
use Rattle.std.proofs.Common.{◌≡◌, List, [], ◌∷◌, ℕ, ◌+◌, ◌-◌, ◌≤◌, ◌<◌, pos, ◌<ℤ◌, length, get_or, sym, ap, subst, ◌∙◌, arith, length-set}
use Rattle.std.proofs.Math.ListN.{set}
use Rattle.std.proofs.lemmas.List.{get_or-map, get_or-set_other, length-map, map-set}
use Rattle.lists.proofs.Places.{one_more_place}
use Rattle.integers.proofs.LinearFacts.{integers}
use Rattle.method.specs.SumLimits.{SumsInRange}
use Rattle.ratios.specs.declared.Sums.{Sums}
use Rattle.ratios.specs.Ratios.{no_sums, sums_at, sums_of}
use Rattle.prepared_years.specs.declared.year.PreparedYear.{PreparedYear}
use Rattle.prepared_years.specs.declared.triangle.PreparedTriangle.{PreparedTriangle}
use Rattle.prepared_years.specs.Prepared.{year_sums, ratios_of, YearsKept}

-- the years before development year k are prepared
pub record PreparedTo (n : ℕ) (ratios : List Sums) (before after : List PreparedYear) (k : ℕ) : Type 0 where
  pub within : k - 1 ≤ n - 1
  pub kept : YearsKept k before after
  pub year : (j : ℕ) → j < k - 1 → get_or (ratios_of after) j no_sums ≡ get_or ratios j no_sums

-- with one year more, at k − 1
pub one_more_year : (ratios : List Sums) (years : List PreparedYear) (k : ℕ) (y : PreparedYear) → k - 1 < length years → 1 ≤ k
    → ((j : ℕ) → j < k - 1 → get_or (ratios_of years) j no_sums ≡ get_or ratios j no_sums)
    → year_sums y ≡ get_or ratios (k - 1) no_sums
    → (j : ℕ) → j < k + 1 - 1 → get_or (ratios_of (set years (k - 1) y)) j no_sums ≡ get_or ratios j no_sums
one_more_year ratios years k y inside first before here j h =
    ap (λ xs. get_or xs j no_sums) (map-set year_sums years (k - 1) y)
    ∙ one_more_place no_sums (λ i s. s ≡ get_or ratios i no_sums) (ratios_of years) (k - 1) (year_sums y)
    (omega (arith, length-map years year_sums)) here before j (omega arith)

pub one_more_kept : {before years : List PreparedYear} {k : ℕ} (y : PreparedYear) → 1 ≤ k → YearsKept k before years → YearsKept (k + 1) before (set years (k - 1) y)
one_more_kept {before} {years} {k} y first s = record {
  same_length = length-set years (k - 1) y ∙ s.same_length;
  others = λ j none h. get_or-set_other years (k - 1) j y none (λ same. omega (arith, first, h, same)) ∙ s.others j none (omega arith);
}

pub all_kept : {n k : ℕ} {before years : List PreparedYear} → k - 1 ≤ n - 1 → YearsKept k before years → YearsKept n before years
all_kept within s = record { same_length = s.same_length; others = λ j none h. s.others j none (omega arith) }

-- ---- The sums of a triangle's development years

-- those of a development year are what the year at its place was prepared from
pub sums_at_place : (years : List PreparedYear) (j k : ℕ) (d : PreparedYear) → j < length years → j + 1 ≡ k
    → sums_at (ratios_of years) k ≡ sums_of (year_sums (get_or years j d))
sums_at_place years j k d inside e =
    let p : k - 1 ≡ j = omega arith in
    ap (λ (x : ℕ). sums_of (get_or (ratios_of years) x no_sums)) p ∙ ap sums_of (get_or-map year_sums years j d no_sums inside)

module _ (t : PreparedTriangle) where
  inside : (j : ℕ) → j + 1 < t.n → j < length t.years
  inside j last = omega (arith, t.years_long, t.most)

  pub exposed_at_place : (j : ℕ) (none : PreparedYear) → j + 1 < t.n → 0 < (get_or t.years j none).exposure
  exposed_at_place j none last =
      let same = get_or-map year_sums t.years j none no_sums (inside j last) in
      let above : pos 0 <ℤ pos (get_or t.years j none).exposure = subst (λ (s : Sums). pos 0 <ℤ s.exposure) same (t.exposed j last) in
      omega (arith, integers, above)

  pub sums_in_range : (k : ℕ) → 1 ≤ k → k < t.n → SumsInRange (sums_at (ratios_of t.years) k)
  sums_in_range k first last = go t.years (inside (k - 1) (omega arith)) (λ none. exposed_at_place (k - 1) none (omega arith))
    where
      go : (years : List PreparedYear) → k - 1 < length years → ((none : PreparedYear) → 0 < (get_or years (k - 1) none).exposure) → SumsInRange (sums_at (ratios_of years) k)
      go [] inside exposed = absurd (omega arith)
      go (y ∷ ys) inside exposed =
          subst SumsInRange (sym (sums_at_place (y ∷ ys) (k - 1) k y inside (omega arith))) ((get_or (y ∷ ys) (k - 1) y).ready (exposed y)).sums_in_range
