-- The place so far and the length of what stands before the comment from there on are the place sought; each turn leaves one byte less.
use mathlib.Core.Path.{◌≡◌, sym, ap, ◌∙◌}
use mathlib.Core.Bool.{true, false, ◌&&◌}
use Prim.Native.Nat.{◌≤◌}
use native.Mathlib.Omega.{arith}
use lib.ListN.{length, take, drop}
use lib.Seq.{take_all}
use Rattle.lists.proofs.Parts.{whole_rest}
use Rattle.text.specs.Lines.{begins_comment, without_comment}
use Rattle.text.proofs.Comments.{take_before_comment, comment_here, comment_later, no_comment}
use Rattle.text.proofs.lines.without_comment.Goals as goal
use Rattle.text.proofs.lines.without_comment.Goals.{else-may_begin-via-then-may_begin+else-begins_comment, else-may_begin-via-else-may_begin}

pub returns-then-begins_comment : goal.returns-then-begins_comment
returns-then-begins_comment c =
    let line = c.args.line.now in
    let at = c.loop-at.at in
    let begins = ap begins_comment (sym (whole_rest line at)) ∙ sym c.begins_comment.ensures ∙ c.if-begins_comment.true in
    let here = ap (λ may_begin. may_begin && begins_comment (drop at line)) c.if-may_begin.true ∙ begins in
    let is : at ≡ length (without_comment line) =
    omega (arith, ap length (comment_here c.loop-at.may_begin line at (omega arith) here), c.loop-at.invariant) in
    ap (λ n. take n line) is ∙ take_before_comment true line

pub loop-at-preserved : goal.loop-at-preserved
loop-at-preserved c =
    let line = c.args.line.now in
    let at = c.loop-at.at in
    let none : (c.loop-at.may_begin && begins_comment (drop at line)) ≡ false = elim c.else-may_begin.branch [
      | else-may_begin-via-then-may_begin+else-begins_comment w ↦
          ap (λ may_begin. may_begin && begins_comment (drop at line)) w.if-may_begin.true
          ∙ ap begins_comment (sym (whole_rest line at)) ∙ sym w.begins_comment.ensures ∙ w.if-begins_comment.false
      | else-may_begin-via-else-may_begin w ↦ ap (λ may_begin. may_begin && begins_comment (drop at line)) w.if-may_begin.false
    ] in
    comment_later c.loop-at.may_begin line at (omega arith) none ∙ c.loop-at.invariant

pub returns : goal.returns
returns c =
    let line = c.args.line.now in
    let whole : length line ≤ length (without_comment line) =
    omega (arith, no_comment c.loop-at.may_begin line c.loop-at.at (omega arith), c.loop-at.invariant) in
    sym (take_all (length (without_comment line)) line whole) ∙ take_before_comment true line
