-- The lines that are left go on with the block (`BlocksRead`).
use Rattle.text.specs.Lines.{lines}
use Rattle.blocks.proofs.BlocksRead.{BlockSoFar}
use Rattle.blocks.proofs.lines.read_lines.Given as goal

abbrev pub invariant-loop-bytes : goal.invariant-loop-bytes
invariant-loop-bytes l =
    BlockSoFar l.separator l.shape (lines l.fn.below.rest.now) l.fn.number l.initial.list l.list l.count l.rows l.number (lines l.bytes-iterator.rest.now)
