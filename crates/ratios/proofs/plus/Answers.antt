-- Neither the term nor the sum passes 64 bits.
use mir.Facts.{to_z-of_z}
use Rattle.ratios.proofs.DevelopmentYear.{term_fits, sum_fits}
use Rattle.ratios.proofs.plus.Goals as goal

pub returns : goal.returns
returns c =
    simp (to_z-of_z c.ranges.sum, to_z-of_z c.ranges.weight, to_z-of_z c.ranges.amount, to_z-of_z (term_fits _ _ _ c.requires), to_z-of_z (sum_fits _ _ _ c.requires))
