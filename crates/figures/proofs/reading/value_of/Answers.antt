-- The fold keeps the value of the digits up to the limit.
use Rattle.std.proofs.Common.{rules, ◌≡◌, ◌∙◌}
use Rattle.std.specs.List.{fold}
use Rattle.figures.proofs.Digits.{one_digit_more, fold_is_value}
use Rattle.figures.proofs.reading.value_of.Goals as goal

pub returns : goal.returns
returns c =
    let folded : c.fold.result ≡ fold one_digit_more 0 c.args.digits.now = search rules in
    folded ∙ fold_is_value 0 c.args.digits.now
