-- The laws are in ExactRemainder.
use Rattle.std.proofs.Common.{to_z-of_z, w64}
use mir.Facts.{to_z_pos}
use Rattle.share.proofs.ExactRemainder.{left-few, left-<, up-<, leftover_fits, nearest_quotient}
use Rattle.share.proofs.nearest_quotient.Goals as goal

pub rounded_up-up-requires : goal.rounded_up-up-requires
rounded_up-up-requires c = rw (c.low_product.ensures, c.low_product-2.ensures, c.high_product-estimate.ensures) (left-few c.requires, c.requires.exposed.most)

pub returns : goal.returns
returns c =
    let up = rw (c.low_product.ensures, c.low_product-2.ensures, c.high_product-estimate.ensures) at c.rounded_up-up.ensures in
    rw (
      c.low_product.ensures,
      c.low_product-2.ensures,
      c.high_product-estimate.ensures,
      to_z_pos w64 (left-< c.requires),
      to_z_pos w64 (up-< c.requires up),
      to_z-of_z (leftover_fits c.requires up),
    ) (nearest_quotient c.requires up)
