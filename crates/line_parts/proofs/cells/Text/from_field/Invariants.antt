-- From the field sought on, what is left of the text is what it is from the field of the number that is left.
use Rattle.std.proofs.Common.{◌≡◌, ◌-◌}
use Rattle.line_parts.specs.Cells.{from_field}
use Rattle.line_parts.proofs.cells.Text.from_field.Given as goal

abbrev pub invariant-loop : goal.invariant-loop
invariant-loop l =
    (l.rest.separator ≡ l.fn.self.separator)
    × (from_field l.fn.self.separator (l.number - l.counter) l.rest.bytes.now ≡ from_field l.fn.self.separator l.number l.fn.self.bytes.now)
