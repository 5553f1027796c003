use Rattle.std.proofs.Common.{vec_items}
use Rattle.sides.proofs.Calls.{each_side, pair_forced}
use Rattle.pair.specs.Members.{by_side}
use Rattle.pair.proofs.PairLogic.forced.Goals as goal

pub returns-in-Some : goal.returns-in-Some
returns-in-Some g c =
    let a = g.A.Logic in
    let b = g.B.Logic in
    let s = c.args.self.now in
    pair_forced (by_side a.theory b.theory s.both) (by_side a.lawful b.lawful s.both) (by_side a.stands b.stands s.both) (vec_items s.standing.vec)
    (each_side _ (g.met.A.Logic.freest s.both.first) (g.met.B.Logic.freest s.both.second)) c.args.e c.in-Some.side c.in-Some.halved c.in-Some.ensures
    c.forced.result c.forced.ensures
