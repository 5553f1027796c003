use Rattle.std.proofs.Common.{◌≡◌, length, get_or, arith}
use Rattle.std.proofs.lemmas.List.{get_or_read}
use Rattle.trees.proofs.Counted.{group_told}
use Rattle.trees.proofs.Layering.{head_long}
use Rattle.trees.proofs.layer.Layer.told.Goals as goal

pub returns : goal.returns
returns c =
    λ rs long.
    let self = c.args.self.now in
    let ls = self.table.items in
    let hs = self.heads.items in
    let low = c.requires.lowest.low c.args.name c.requires.name in
    let many : length rs ≡ length ls = omega (arith, long, self.table.ok.0) in
    let lead : c.index-lead.result.now ≡ get_or ls c.args.name 0 = get_or_read ls _ _ (omega (arith, self.table.ok.0)) c.index-lead.ensures 0 in
    let head : c.index-head.result.now ≡ get_or hs c.index-lead.result.now 0 = get_or_read hs _ _ (omega (arith, head_long self, self.table.ok.0)) c.index-head.ensures 0 in
    group_told rs ls hs many c.args.name c.index-lead.result.now c.index-head.result.now lead head c.group.result c.len-count.result
    (omega (arith, self.table.ok.0, c.len-count.ensures)) c.if-head-count.false c.group.ensures.value
