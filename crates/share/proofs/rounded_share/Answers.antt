-- The share of the remainder, and the outstanding times the quotient; the laws are in WholeShare.
use Rattle.std.proofs.Common.{◌≡◌, nat_abs, ap, ◌∙◌, to_z-of_z, w64}
use mir.Facts.{to_z_pos}
use Rattle.prepared_ratios.proofs.Ratios.{quotient_fits}
use Rattle.share.specs.Share.{share_or_too_large}
use Rattle.share.specs.NearestQuotient.{NearestQuotient}
use Rattle.share.proofs.WholeShare.{outstanding_fits, quotient-<, value, value_is, beyond_reach, product_fits, value_fits}
use Rattle.share.proofs.rounded_share.Goals as goal
use Rattle.share.proofs.rounded_share.Goals.{After-nearest_quotient-nearest}

nearest : (c : After-nearest_quotient-nearest) → let a = c.args in
    NearestQuotient (nat_abs a.outstanding.0) a.ratio.remainder a.exposure c.nearest_quotient-nearest.result
nearest c = simp (to_z-of_z (outstanding_fits c.requires)) at c.nearest_quotient-nearest.ensures

pub returns-then-size-ratio : goal.returns-then-size-ratio
returns-then-size-ratio c =
    beyond_reach c.requires (nearest (goal.at.returns-then-size-ratio c).After-nearest_quotient-nearest) (simp (to_z-of_z {w = w64} (outstanding_fits c.requires)) at c.if-size-ratio.true)

pub returns : goal.returns
returns c =
    let near = nearest (goal.at.returns c).After-nearest_quotient-nearest in
    let within = simp (to_z-of_z {w = w64} (outstanding_fits c.requires)) at c.if-size-ratio.false in
    let numbers = simp (to_z-of_z (outstanding_fits c.requires), to_z-of_z (quotient_fits c.requires.ready)) at c.limited.ensures in
    let answer : c.limited.result ≡ share_or_too_large (value c.requires near)
    = rw (to_z-of_z (product_fits c.requires near within), to_z_pos w64 (quotient-< c.requires near), to_z-of_z (value_fits c.requires near within)) at numbers in
    answer ∙ ap share_or_too_large (value_is c.requires near)
