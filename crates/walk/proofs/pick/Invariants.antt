use Rattle.walk.specs.Written.{written}
use Rattle.walk.specs.Picks.{BestOf, Within}
use Rattle.walk.proofs.pick.Given as goal

abbrev pub invariant-loop-i : goal.invariant-loop-i
invariant-loop-i g l =
    let m = g.L.Logic in
    Within l.i l.best × (m.lawful l.logic → BestOf (m.theory l.logic) (m.stands l.logic) (written l.rules) l.i l.best)
