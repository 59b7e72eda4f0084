-- By the last byte that is no space.
use Rattle.std.proofs.Common.{rules, ◌≡◌, length, ◌<◌, get_or, ℕ}
use Rattle.text.specs.Bytes.{space}
use Rattle.line_parts.proofs.Trimmed.{only_spaces, last_content}
use Rattle.line_parts.proofs.cells.without_last_spaces.Goals as goal

pub returns-in-Some : goal.returns-in-Some
returns-in-Some c =
    let text = c.args.text.now in
    let last = c.in-Some.last in
    let within : last < length text = search rules in
    let content : get_or text last 0 ≡ space → ⊥ = search rules in
    let spaces : (k : ℕ) → last < k → k < length text → get_or text k 0 ≡ space = search rules in
    last_content text last within content spaces

pub returns-in-None : goal.returns-in-None
returns-in-None c =
    let text = c.args.text.now in
    let spaces : (k : ℕ) → k < length text → get_or text k 0 ≡ space = search rules in
    only_spaces text spaces
