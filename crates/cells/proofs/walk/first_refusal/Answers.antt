-- A walk through the cells, row by row (`CellWalk`).
use Rattle.std.proofs.Common.{rules, ◌≡◌, Bool, ℕ, sym, ap, ◌∙◌, ◌+◌, ◌<◌, arith}
use Rattle.method.specs.Verdicts.{each_cell}
use Rattle.method.proofs.FirstRefusal.{none_asked, next_accepted, next_refused, all_accepted}
use Rattle.verdicts.specs.Verdicts.{number_of, verdict_of}
use Rattle.verdicts.proofs.Refusals.{handed_on}
use Rattle.cells.specs.Cells.{Answers}
use Rattle.cells.proofs.CellWalk.{cell_verdict, row_is, place_inside}
use Rattle.cells.proofs.walk.first_refusal.Goals as goal
use Rattle.cells.proofs.walk.first_refusal.Goals.{After-asked_at}

pub loop-r-init : goal.loop-r-init
loop-r-init g c = λ test same. none_asked _ _

pub loop-j-init : goal.loop-j-init
loop-j-init g c = λ test same. none_asked _ _

pub overflow_add-start : goal.overflow_add-start
overflow_add-start g c =
    let place = place_inside c.args.n c.loop-r.r c.loop-j.j c.requires.most (omega arith) in
    let fits : c.cells_before-start.result + c.loop-j.j < 1024 = omega (arith, c.cells_before-start.ensures) in search rules

pub passes-requires : goal.passes-requires
passes-requires g c = rw c.cells_before-start.ensures (c.requires.askable c.loop-r.r c.loop-j.j (omega arith))

-- the verdict on the cell at hand
verdict : (g : _) (c : After-asked_at g) (test : ℕ → ℕ → Bool) → Answers c.args.n (goal.F-post g c.args.passes) test
    → verdict_of c.asked_at.result ≡ cell_verdict (number_of c.args.question) test (c.loop-r.r + 1) (c.loop-j.j + 1)
verdict g c test same =
    let answered = rw c.cells_before-start.ensures at c.passes.ensures in
    let tested = same c.loop-r.r c.loop-j.j (omega arith) c.passes.result answered in
    rw tested at c.asked_at.ensures

pub returns-in_err-asked_at : goal.returns-in_err-asked_at
unfolding each_cell
returns-in_err-asked_at g c = λ test same.
    let no = sym (verdict g (goal.at.returns-in_err-asked_at g c).After-asked_at test same) ∙ ap verdict_of c.in_err-asked_at.was in
    let row = next_refused (c.loop-j.invariant test same) (omega arith) no in
    let all = next_refused (c.loop-r.invariant test same) (omega arith) (sym (row_is _ _ test _ (omega arith)) ∙ row) in
    handed_on _ c.in_err-asked_at.field-0.0 c.from_residual.ensures.1 ∙ sym all

pub loop-j-preserved : goal.loop-j-preserved
loop-j-preserved g c = λ test same.
    let yes = sym (verdict g (goal.at.loop-j-preserved g c).After-asked_at test same) ∙ ap verdict_of c.in_ok-asked_at.was in
    next_accepted (c.loop-j.invariant test same) (omega arith) yes

pub loop-r-preserved : goal.loop-r-preserved
loop-r-preserved g c = λ test same. next_accepted (c.loop-r.invariant test same) (omega arith)
    (sym (row_is _ _ test _ (omega arith)) ∙ all_accepted (c.loop-j.invariant test same) (omega arith))

pub returns : goal.returns
unfolding each_cell
returns g c = λ test same. sym (all_accepted (c.loop-r.invariant test same) (omega arith))
