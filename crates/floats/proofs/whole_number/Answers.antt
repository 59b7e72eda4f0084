-- The two literals are -2^51 and 2^51.
use Rattle.std.proofs.Common.{sym, ◌∙◌}
use lib.Ieee.{of_bits, neg}
use Rattle.floats.proofs.whole_number.Goals as goal

pub small_whole_number-requires : goal.small_whole_number-requires
unfolding of_bits neg
small_whole_number-requires c = sym c.is_within.ensures ∙ c.if-is_within.true
