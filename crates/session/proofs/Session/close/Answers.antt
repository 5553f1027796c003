use Rattle.std.proofs.Common.{◌≡◌, ℕ, Bool, List, [], ◌∷◌, ◌++◌, take, vec_items, sym, ap, ◌∙◌, subst₂}
use Rattle.logic.proofs.Sames.{kept_refl}
use Rattle.walk.specs.Written.{written}
use Rattle.session.specs.Calls.Asking.{closes}
use Rattle.session.specs.Calls.Answer.{granted}
use Rattle.session.specs.Led.{Led}
use Rattle.session.proofs.Leads.{led_unopened, led_close, written_take, taken_had}
use Rattle.session.proofs.Session.close.Goals as goal

pub returns-in_default : goal.returns-in_default
returns-in_default g c =
    let m = g.L.Logic in
    let s = c.args.self.now in
    λ cs rs l. (
      kept_refl (m.theory s.logic) (m.telling s.logic) (m.lawful s.logic) l.lawful,
      led_unopened l
          (vec_items c.pop.new.self.vec) c.in_default.ensures.0 (c.in_default.ensures.0 ∙ sym c.in_default.ensures.1),
    )

pub returns : goal.returns
returns g c =
    let m = g.L.Logic in
    let s = c.args.self.now in
    let z = c.put_away.new.self in
    let R = written (vec_items s.rules.vec) in
    let cut : written (vec_items c.truncate.new.self.vec) ≡ take c.in-Some.start R =
    written_take c.in-Some.start (vec_items s.rules.vec) (vec_items c.truncate.new.self.vec) (c.truncate.ensures ∙ ap (λ v. take c.in-Some.start (vec_items v.vec)) c.put_away.ensures.rules) in
    λ cs rs l.
    let keep = c.put_away.ensures.keeps l.lawful in (
      keep,
      subst₂ (λ (ks : List ℕ) (b : Bool). Led (m.theory z.logic) (m.lawful z.logic) (m.stands z.logic) (written (vec_items c.truncate.new.self.vec)) ks (vec_items z.choices) b (cs ++ (closes ∷ [])) (rs ++ (granted ∷ [])))
          (sym (ap (λ v. vec_items v.vec) c.put_away.ensures.scopes)) (sym c.put_away.ensures.shown)
          (led_close l
          (m.theory z.logic) (m.lawful z.logic) (m.stands z.logic) (vec_items z.choices) keep.theory keep.lawful (c.put_away.ensures.bare l.lawful) c.put_away.ensures.choices
          (vec_items c.pop.new.self.vec) c.in-Some.start c.in-Some.ensures (written (vec_items c.truncate.new.self.vec)) cut
          (taken_had (m.theory s.logic) c.in-Some.start R (written (vec_items c.truncate.new.self.vec)) cut l.had)),
    )
