-- Question 9, question 10, and the movement of the cell.
use lib.Dec.{T}
use lib.Signed.{non_neg}
use Rattle.std.proofs.Common.{rules, ◌≡◌, ℤ, nat_abs, Fits, w64, None, sym, ap, ◌∙◌, arith}
use Rattle.std.proofs.lemmas.Result.{err_from_is_err_and}
use Rattle.integers.proofs.MachineArithmetic.{Held}
use Rattle.method.specs.Verdicts.{accepted}
use Rattle.method.specs.Questions.{question_10, cell_unseen}
use Rattle.method.specs.Triangle.{n}
use Rattle.lent.specs.Triangles.{triangle_of}
use Rattle.verdicts.specs.Verdicts.{verdict_of}
use Rattle.verdicts.proofs.Counts.{count_fits}
use Rattle.prepared_years.specs.PreparedTriangles.{Prepared}
use Rattle.run_off.proofs.ReadTriangles.{accepted_reading, question_1_passed, years_observed, years_fit, can_be_prepared}
use Rattle.single_cell.proofs.WholeCells.{refused_projection, refused_years, unseen, cell_year, cell_later, accepted_whole}
use Rattle.single_cell.proofs.projected_cell.Goals as goal
use Rattle.single_cell.proofs.projected_cell.Goals.{After-asked, After-prepare, In_ok-asked}

pub overflow_cast-triangle : goal.overflow_cast-triangle
overflow_cast-triangle c =
    let held : Held c.args.triangle.years = search rules in
    simp held (years_fit c.requires)

pub prepare-requires : goal.prepare-requires
prepare-requires c =
    let held : Held c.args.triangle.years = search rules in
    simp held (can_be_prepared c.requires)

-- as the cast to a count asks
abbrev IsCount : ℤ → Type 0
IsCount z = T (non_neg z) × Fits w64 (nat_abs z)

-- what was prepared
prepared : (c : After-prepare) → Prepared (n (triangle_of c.args.triangle)) c.args.development.now.ratios c.args.development.now.outstandings c.prepare.new.self
prepared c =
    let held : Held c.args.triangle.years = search rules in
    simp held at c.prepare.ensures.prepared

pub returns-in_err-question_9 : goal.returns-in_err-question_9
returns-in_err-question_9 c =
    let p = err_from_is_err_and c.from_residual.result c.from_residual.ensures.1 in
    rw (p.1, p.2) (refused_projection _ _ _ c.requires (prepared (goal.at.returns-in_err-question_9 c).After-prepare) c.in_err-question_9.ensures)

pub cell_unseen-requires : goal.cell_unseen-requires
cell_unseen-requires c =
    let held : Held c.args.triangle.years = search rules in
    let passed = question_1_passed _ None (accepted_reading c.requires) in
    simp held passed

-- question 10, as it was asked
tested : (c : After-asked) → verdict_of c.asked.result ≡ question_10 (cell_unseen c.args.triangle.years c.args.cell.accident_year c.args.cell.development_year)
unfolding question_10
tested c =
    let years : Held c.args.triangle.years = search rules in
    c.asked.ensures ∙ ap question_10 (simp years at c.cell_unseen.ensures)

pub returns-in_err-asked : goal.returns-in_err-asked
returns-in_err-asked c =
    let p = err_from_is_err_and c.from_residual-in_err-asked.result c.from_residual-in_err-asked.ensures.1 in
    let here = goal.at.returns-in_err-asked c in
    let told = sym (ap verdict_of c.in_err-asked.was) ∙ tested here.After-asked in
    rw (p.1, p.2) (refused_years _ _ _ c.requires (prepared here.After-prepare) c.in_ok-question_9.ensures told)

-- where question 10 has accepted the cell
module _ (c : In_ok-asked) where
  told : accepted ≡ question_10 (cell_unseen c.args.triangle.years c.args.cell.accident_year c.args.cell.development_year)
  told = sym (ap verdict_of c.in_ok-asked.was) ∙ tested (goal.at.In_ok-asked c).After-asked

  as_prepared : Prepared (n (triangle_of c.args.triangle)) c.args.development.now.ratios c.args.development.now.outstandings c.prepare.new.self
  as_prepared = prepared (goal.at.In_ok-asked c).After-prepare

  counted : IsCount c.args.cell.accident_year × IsCount c.args.cell.development_year
  counted =
      let u = unseen _ _ _ c.requires as_prepared c.in_ok-question_9.ensures told in
      let y = (years_observed c.requires).years in
      (count_fits _ u.accident_year_counted (omega (arith, u.last, y.most)), count_fits _ u.development_year_counted (omega (arith, u.last_year, y.most)))

pub overflow_cast-i : goal.overflow_cast-i
overflow_cast-i c =
    let i : Held c.args.cell.accident_year = search rules in
    simp i (counted (goal.at.overflow_cast-i c).In_ok-asked).0

pub overflow_cast-k : goal.overflow_cast-k
overflow_cast-k c =
    let k : Held c.args.cell.development_year = search rules in
    simp k (counted (goal.at.overflow_cast-k c).In_ok-asked).1

pub movement-requires : goal.movement-requires
movement-requires c =
    let i : Held c.args.cell.accident_year = search rules in
    let k : Held c.args.cell.development_year = search rules in
    let here = (goal.at.movement-requires c).In_ok-asked in
    let q = c.in_ok-question_9.ensures in
    simp (i, k) (cell_year _ _ _ c.requires (as_prepared here) q (told here), cell_later _ _ _ c.requires (as_prepared here) q (told here))

pub returns : goal.returns
returns c =
    let i : Held c.args.cell.accident_year = search rules in
    let k : Held c.args.cell.development_year = search rules in
    let here = (goal.at.returns c).In_ok-asked in
    accepted_whole _ _ _ c.requires (as_prepared here) c.in_ok-question_9.ensures (told here) (simp (i, k) at c.movement.ensures)
