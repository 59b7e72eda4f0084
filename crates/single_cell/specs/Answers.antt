-- What the call answers, in the figures of document 01: zeros where it is refused.
use Rattle.std.specs.Prelude.{Result, Ok, Err}
use Rattle.method.specs.Verdicts.{accepted}
use Rattle.method.specs.Answers.{CellAnswer, refused_cell}
use Rattle.verdicts.specs.declared.verdict.Refusal.{Refusal}
use Rattle.verdicts.specs.Verdicts.{refused_by}
use Rattle.projection.specs.declared.Movement.{Movement}

abbrev pub cell_of : Result Movement Refusal → CellAnswer
cell_of (Ok m) = record { verdict = accepted; payment = m.payment.0; adjustment = m.adjustment.0; outstanding = m.outstanding.0 }
cell_of (Err refusal) = refused_cell (refused_by refusal)
