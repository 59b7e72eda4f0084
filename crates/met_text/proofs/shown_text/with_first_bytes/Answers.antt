-- The bytes so far are shown after what was there.
use mathlib.Core.Path.{◌≡◌, ap, ◌∙◌}
use mathlib.Core.List.{List, map}
use Prim.Native.Nat.{ℕ}
use native.Mathlib.Omega.{arith}
use borrow.Author.Rules.{rules}
use lib.ListN.{take}
use lib.Seq.{take_all}
use Rattle.std.proofs.lemmas.List.{take_min}
use Rattle.met_text.specs.ShownText.{shown_byte}
use Rattle.printed.proofs.LineTexts.{nothing_after}
use Rattle.met_text.proofs.ShownTexts.{byte_shown}
use Rattle.met_text.proofs.shown_text.with_first_bytes.Goals as goal

pub loop-byte-init : goal.loop-byte-init
loop-byte-init c = nothing_after c.args.line (search rules)

pub loop-byte-preserved : goal.loop-byte-preserved
loop-byte-preserved c =
    byte_shown (take c.min.result c.args.met.now) c.loop-byte.byte-index (omega arith) c.loop-byte.invariant (rw c.shown_byte.ensures at c.with_byte-longer.ensures)

pub returns : goal.returns
returns c =
    let met : List ℕ = c.args.met.now in
    let first : List ℕ = take c.min.result met in
    let all : take c.loop-byte.byte-index first ≡ take 40 met =
    take_all c.loop-byte.byte-index first (omega arith) ∙ ap (λ n. take n met) c.min.ensures ∙ take_min 40 met in
    rw (ap (map shown_byte) all) at c.loop-byte.invariant
