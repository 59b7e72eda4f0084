-- What was read, prepared and projected.
use borrow.Author.Rules.{rules}
use Rattle.integers.proofs.MachineArithmetic.{Held}
use Rattle.run_off.proofs.ReadTriangles.{years_fit, can_be_prepared}
use Rattle.calls.proofs.BothLists.{lists_measured, projected}
use Rattle.calls.proofs.reserve.fill_accepted.Goals as goal

pub overflow_cast-triangle : goal.overflow_cast-triangle
overflow_cast-triangle c =
    let held : Held c.args.triangle.years = search rules in
    simp held (years_fit c.requires)

pub prepare-requires : goal.prepare-requires
prepare-requires c =
    let held : Held c.args.triangle.years = search rules in
    simp held (can_be_prepared c.requires)

pub project-requires : goal.project-requires
project-requires c =
    let held : Held c.args.triangle.years = search rules in
    lists_measured c.requires (simp held at c.prepare.ensures.prepared)

pub returns : goal.returns
returns c =
    let held : Held c.args.triangle.years = search rules in
    projected c.requires (simp held at c.prepare.ensures.prepared) c.project.ensures
