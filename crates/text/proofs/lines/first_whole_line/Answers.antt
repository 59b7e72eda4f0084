-- By the place of the first line feed, and by the byte before it.
use mathlib.Core.Path.{◌≡◌, refl, ap, ◌∙◌}
use mathlib.Core.List.{List}
use Prim.Native.Nat.{ℕ}
use native.Mathlib.Omega.{arith}
use borrow.Author.Rules.{rules}
use Rattle.std.proofs.Common.{Bor}
use Rattle.text.specs.Bytes.{line_feed}
use Rattle.text.specs.Search.{is_byte}
use Rattle.text.proofs.FirstLines.{line_end, without_line_feed, stripped}
use Rattle.text.proofs.lines.first_whole_line.Goals as goal
use Rattle.text.proofs.lines.first_whole_line.Goals.{After-find-end}

is : (c : After-find-end) → c.find-end.result ≡ line_end c.args.text.now
is c = c.find-end.ensures.first (is_byte line_feed) (λ byte answer h. search rules)

pub returns-then-end-text : goal.returns-then-end-text
returns-then-end-text c =
    without_line_feed c.args.text.now c.find-end.result (is (goal.at.returns-then-end-text c).After-find-end) c.if-end-text.true

pub returns : goal.returns
returns c =
    ap (λ (line : Bor (List ℕ)). line.now) c.unwrap_or.ensures
    ∙ stripped c.args.text.now c.find-end.result (is (goal.at.returns c).After-find-end) (omega arith) _ c.strip_suffix.result refl
    c.strip_suffix.ensures.cases
