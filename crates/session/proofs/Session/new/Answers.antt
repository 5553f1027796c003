use Rattle.std.proofs.Common.{vec_items}
use Rattle.session.proofs.Leads.{led_begin}
use Rattle.session.proofs.Session.new.Goals as goal

pub returns-clause-begins : goal.returns-clause-begins
returns-clause-begins g c =
    let m = g.L.Logic in
    let z = c.back.new.self in
    λ good. led_begin (m.theory z) (m.lawful z) (m.stands z) (vec_items c.in_ok-rules.rules.vec) (vec_items c.in_ok-scopes.scopes.vec) (vec_items c.in_ok-choices.choices)
    (c.back.ensures.keeps good).lawful (c.back.ensures.oldest good) c.in_ok-rules.ensures c.in_ok-scopes.ensures c.in_ok-choices.ensures.items
