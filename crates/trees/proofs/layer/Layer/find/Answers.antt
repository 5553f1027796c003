use Rattle.std.proofs.Common.{◌≡◌, ℕ, length, get_or, ap, ◌∙◌, arith}
use Rattle.std.proofs.lemmas.List.{get_or_read}
use Rattle.trees.proofs.Climbing.{climb}
use Rattle.trees.proofs.layer.Layer.find.Goals as goal

pub loop-at-preserved : goal.loop-at-preserved
loop-at-preserved c =
    let n = length c.args.self.now.table.items in
    let ps = c.loop-at.self.table.items in
    let at = c.loop-at.at in
    let low = c.loop-at.invariant.0.low in
    let long = c.loop-at.invariant.0.parents.long in
    let here : c.index.result.now ≡ get_or ps at 0 = get_or_read ps _ _ (omega arith) c.index.ensures 0 in
    let first : c.index-in-loop-at.result.now ≡ get_or ps at 0 = get_or_read ps _ _ (omega arith) c.index-in-loop-at.ensures 0 in
    let low_first = c.loop-at.invariant.0.parents.low at (omega arith) in
    let up : c.index-up.result.now ≡ get_or ps (get_or ps at 0) 0 = get_or_read ps _ _ (omega arith) c.index-up.ensures 0 ∙ ap (λ (k : ℕ). get_or ps k 0) first in
    ((climb n c.args.self.now.table.items ps c.args.term at c.index-up.result.now c.requires.term c.loop-at.invariant.0 (λ e. c.loop-at-test.true (here ∙ e)) up).1, c.loop-at.invariant.1)
