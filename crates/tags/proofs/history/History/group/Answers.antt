use Rattle.std.proofs.Common.{vec_items}
use Rattle.groups.proofs.Tables.{group_numbered}
use Rattle.tags.specs.Tags.{ForcedEqual}
use Rattle.tags.proofs.history.History.group.Goals as goal

pub returns : goal.returns
returns c =
    rw c.number.ensures (group_numbered 1024 (ForcedEqual (vec_items c.args.self.now.standing.vec)) c.groups.result.now.lowest c.groups.ensures.table c.args.tag c.requires)
