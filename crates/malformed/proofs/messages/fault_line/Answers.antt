-- The texts of the definition, one after the other.
use Rattle.malformed.specs.Messages.{fault_line}
use Rattle.printed.proofs.LineTexts.{both_after, line_after}
use Rattle.malformed.proofs.messages.fault_line.Goals as goal

pub returns : goal.returns
unfolding fault_line
returns c =
    let expected = rw c.expected_text.ensures at c.with_text-expected.ensures in
    line_after c.fault_place.ensures (both_after expected (both_after c.with_text.ensures c.with_shown.ensures))
