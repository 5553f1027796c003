use Rattle.std.proofs.Common.{◌≡◌, true, false, rules, tests}
use Rattle.std.proofs.lemmas.Iterator.{YieldsList-from_slice, cases_from_all}
use Rattle.rules.specs.Rules.{equation_of}
use Rattle.session.proofs.Literals.{had_decides}
use Rattle.session.proofs.calls.has_all.Goals as goal

pub returns : goal.returns
returns g c =
    λ good.
    let t = g.L.Logic.theory c.args.logic.now in
    let ls = c.args.rule.now in
    had_decides t ls c.all.result
    (cases_from_all _ _ _ (λ x. t.has (equation_of x) ≡ true) (λ x. t.has (equation_of x) ≡ false) c.all.ensures.ran (YieldsList-from_slice ls cc)
    (λ x q k. search (rules, tests)) (λ x q k. search (rules, tests)))
