use Rattle.std.proofs.Common.{◌≡◌, ◌<◌, ◌≤◌, length, get_or, vec_items, rules, tests}
use Rattle.logic.proofs.Sames.{kept_refl}
use Rattle.session.proofs.Leads.{led_unshown, led_beyond, led_choice}
use Rattle.session.proofs.Session.choice.Goals as goal

pub returns-then-not-self : goal.returns-then-not-self
returns-then-not-self g c =
    let m = g.L.Logic in
    let s = c.args.self.now in
    λ cs rs l. (kept_refl (m.theory s.logic) (m.telling s.logic) (m.lawful s.logic) l.lawful, led_unshown c.args.k c.if-not-self.true l)

pub returns-in-None : goal.returns-in-None
returns-in-None g c =
    let m = g.L.Logic in
    let s = c.args.self.now in
    let past : length (vec_items s.choices) ≤ c.args.k = search (rules, tests) in
    λ cs rs l. (kept_refl (m.theory s.logic) (m.telling s.logic) (m.lawful s.logic) l.lawful, led_beyond c.args.k c.if-not-self.false past l)

pub returns-in-Some : goal.returns-in-Some
returns-in-Some g c =
    let m = g.L.Logic in
    let s = c.args.self.now in
    let within : c.args.k < length (vec_items s.choices) = search (rules, tests) in
    let there : c.in-Some.e.now ≡ get_or (vec_items s.choices) c.args.k (record { left = 0; right = 0 }) = search (rules, tests) in
    λ cs rs l. (kept_refl (m.theory s.logic) (m.telling s.logic) (m.lawful s.logic) l.lawful, led_choice c.args.k c.if-not-self.false within c.in-Some.e.now there l)
