-- What is left of the text has the heading of the whole; each turn leaves one byte less at least.
use Rattle.std.specs.Prelude.{length}
use Rattle.headings.proofs.HeadingSearch.{SearchedTo, LeftAfter}
use Rattle.text.specs.Lines.{lines}
use Rattle.headings.proofs.places.find_heading.Given as goal

abbrev pub invariant-loop-rest : goal.invariant-loop-rest
invariant-loop-rest l =
    SearchedTo l.text.separator l.heading (lines l.text.bytes.now) l.line (lines l.rest) × LeftAfter l.text.bytes.now l.line l.rest

abbrev pub decreases-loop-rest : goal.decreases-loop-rest
decreases-loop-rest l = length l.rest
