use Rattle.tags.proofs.history.History.joins.Goals as goal

pub returns : goal.returns
returns c =
    let agree = c.groups.ensures.table.agree c.args.a c.args.b c.requires.0 c.requires.1 in
    (λ yes. agree.1 (c.joins.ensures.0 yes), λ forced. c.joins.ensures.1 (agree.0 forced))
