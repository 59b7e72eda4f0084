-- The word sought is the one of the number that is left, in what is left of the line.
use Rattle.std.proofs.Common.{◌≡◌, ◌-◌}
use Rattle.line_parts.specs.Words.{word}
use Rattle.line_parts.proofs.cells.Text.word.Given as goal

abbrev pub invariant-loop : goal.invariant-loop
invariant-loop l =
    word l.fn.self.separator (l.number - l.counter) l.rest ≡ word l.fn.self.separator l.number l.fn.self.bytes.now
