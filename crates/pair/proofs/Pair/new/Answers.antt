use Rattle.std.proofs.Common.{vec_items}
use Rattle.sides.specs.Sides.{pick}
use Rattle.sides.proofs.Calls.{each_side, pair_begun}
use Rattle.pair.specs.Members.{by_side}
use Rattle.pair.proofs.Pair.new.Goals as goal

pub returns : goal.returns
returns g c =
    let a = g.A.Logic in
    let b = g.B.Logic in
    let x = c.args.first in
    let y = c.args.second in
    let z = c.back.new.self in
    λ good fine. pair_begun (pick (a.theory x) (b.theory y)) (by_side a.theory b.theory z) (pick (a.telling x) (b.telling y)) (by_side a.telling b.telling z)
    (by_side a.lawful b.lawful z) (pick (a.stands x) (b.stands y)) (by_side a.stands b.stands z) (vec_items c.in_ok-standing.standing.vec)
    c.in_ok-standing.ensures (c.back.ensures (each_side _ good fine))
