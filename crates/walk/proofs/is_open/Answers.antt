use Rattle.std.proofs.Common.{rules, tests}
use Rattle.std.proofs.lemmas.Iterator.{YieldsList-from_slice, cases_from_all}
use Rattle.walk.specs.Picks.{Leaves, Settles}
use Rattle.walk.proofs.Literals.{judged}
use Rattle.walk.proofs.is_open.Goals as goal

pub returns : goal.returns
returns g c =
    λ good.
    let t = g.L.Logic.theory c.args.logic.now in
    let S = g.L.Logic.stands c.args.logic.now in
    let ls = c.args.rule.now in
    judged t S ls c.all.result
    (cases_from_all _ _ _ (Leaves t S) (Settles t S) c.all.ensures.ran (YieldsList-from_slice ls cc) (λ x q k. search (rules, tests)) (λ x q k. search (rules, tests)))
