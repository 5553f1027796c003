use Rattle.std.proofs.Common.{◌≡◌, ℕ, ◌≤◌, Bool, List, [], ◌∷◌, ◌++◌, length, vec_items, sym, ap, ◌∙◌, subst, subst₂, arith}
use Rattle.logic.proofs.Sames.{same_sym, kept_trans}
use Rattle.rules.specs.declared.Literal.{Literal}
use Rattle.rules.specs.Rules.{HadAll}
use Rattle.rules.specs.Walks.{Walk}
use Rattle.rules.proofs.Moved.{rules_moved}
use Rattle.walk.specs.Written.{written}
use Rattle.walk.specs.Walked.{end_of, is_found}
use Rattle.session.specs.Calls.Asking.{ask}
use Rattle.session.specs.Calls.Answer.{answered}
use Rattle.session.specs.Led.{Led}
use Rattle.session.proofs.Asks.{led_ask}
use Rattle.session.proofs.Session.ask.Goals as goal

pub returns : goal.returns
returns g c =
    let m = g.L.Logic in
    let s = c.args.self.now in
    let y = c.put_away.new.self in
    let z = c.ask-word.new.logic in
    let R = written (vec_items s.rules.vec) in
    let A = written c.as_slice.result.now in
    let D = vec_items c.ask-word.new.choices in
    let kept : written (vec_items y.rules.vec) ≡ R = ap (λ v. written (vec_items v.vec)) c.put_away.ensures.rules in
    let read : A ≡ R = ap written c.as_slice.ensures ∙ kept in
    let few : length c.as_slice.result.now ≤ 256 = omega (arith, ap length c.as_slice.ensures, y.rules.vec.ok.0, y.rules.few) in
    λ cs rs l.
    let away = c.put_away.ensures.keeps l.lawful in
    let had : HadAll (m.theory y.logic) A = subst (HadAll (m.theory y.logic)) (sym read) (rules_moved (m.theory s.logic) (m.theory y.logic) (same_sym away.theory) R l.had) in
    let asked = c.ask-word.ensures.asks away.lawful (c.put_away.ensures.bare l.lawful) had few y.room in
    let walked : Walk (m.theory y.logic) R c.args.budget [] 0 c.ask-word.result.1 (end_of c.ask-word.result.0 D) =
    subst (λ (Q : List (List Literal)). Walk (m.theory y.logic) Q c.args.budget [] 0 c.ask-word.result.1 (end_of c.ask-word.result.0 D)) read asked.walk in
    let a = c.ask-word.result.0 in (
      kept_trans away asked.kept,
      subst₂ (λ (Q : List (List Literal)) (b : Bool). Led (m.theory z) (m.lawful z) (m.stands z) Q (vec_items y.scopes.vec) D b (cs ++ (ask c.args.budget ∷ [])) (rs ++ (answered a c.ask-word.result.1 ∷ [])))
          (sym kept) (sym c.is_found-self.ensures)
          (subst (λ (ks : List ℕ). Led (m.theory z) (m.lawful z) (m.stands z) R ks D (is_found a) (cs ++ (ask c.args.budget ∷ [])) (rs ++ (answered a c.ask-word.result.1 ∷ [])))
          (sym (ap (λ v. vec_items v.vec) c.put_away.ensures.scopes))
          (led_ask l
          (m.theory y.logic) (m.theory z) (m.lawful z) (m.stands z) D away.theory asked.kept.theory asked.kept.lawful asked.shown c.args.budget c.ask-word.result.1
          a asked.bare walked (g.met.L.Logic.freest z asked.kept.lawful))),
    )
