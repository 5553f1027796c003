use Rattle.std.proofs.Common.{◌≡◌, ℕ, List, vec_items, sym, subst, arith}
use Rattle.groups.specs.Tables.{Table}
use Rattle.tags.specs.Tags.{ForcedEqual}
use Rattle.tags.specs.Layers.{newest}
use Rattle.tags.specs.Histories.{history_table}
use Rattle.tags.proofs.Layers.{newest_read}
use Rattle.tags.proofs.history.History.groups.Goals as goal

pub returns : goal.returns
returns c =
    let self = c.args.self.now in
    let es = vec_items self.standing.vec in
    let ps = vec_items self.partitions in
    let read : c.index.result.now.lowest ≡ newest es ps
    = newest_read es ps c.len.result c.index.result.now (omega (arith, self.standing.vec.ok.0)) (omega (arith, self.one_more, self.standing.vec.ok.0, self.partitions.ok.0)) c.index.ensures in
    record {
      table = subst (λ (ls : List ℕ). Table 1024 (ForcedEqual es) ls) (sym read) (history_table self);
      newest = read;
    }
