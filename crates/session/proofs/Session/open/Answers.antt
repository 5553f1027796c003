use Rattle.std.proofs.Common.{◌≡◌, ℕ, ◌<◌, Bool, List, [], ◌∷◌, ◌++◌, length, vec_items, sym, ap, ◌∙◌, subst₂, rules, tests}
use Rattle.std.proofs.lemmas.List.{length-map}
use Rattle.logic.proofs.Sames.{kept_refl}
use Rattle.rules.specs.declared.Literal.{Literal}
use Rattle.walk.specs.Written.{literals_of, written}
use Rattle.session.specs.Calls.{Answer}
use Rattle.session.specs.Calls.Asking.{opens}
use Rattle.session.specs.Calls.Answer.{granted, refused}
use Rattle.session.specs.Replies.{granted_or}
use Rattle.session.specs.Led.{Led}
use Rattle.session.proofs.Leads.{led_scopes, led_open}
use Rattle.session.proofs.Session.open.Goals as goal

pub returns-in_err-map_err : goal.returns-in_err-map_err
returns-in_err-map_err g c =
    let m = g.L.Logic in
    let s = c.args.self.now in
    let full : length (vec_items s.scopes.vec) ≡ 32 = search (rules, tests) in
    let left : vec_items c.push.new.self.vec ≡ vec_items s.scopes.vec = search (rules, tests) in
    let answered : granted_or c.from_residual.result ≡ refused 32 = search (rules, tests) in
    λ cs rs l. (
      kept_refl (m.theory s.logic) (m.telling s.logic) (m.lawful s.logic) l.lawful,
      subst₂ (λ (ks : List ℕ) (a : Answer). Led (m.theory s.logic) (m.lawful s.logic) (m.stands s.logic) (written (vec_items s.rules.vec)) ks (vec_items s.choices) s.shown (cs ++ (opens ∷ [])) (rs ++ (a ∷ [])))
          (sym left) (sym answered) (led_scopes l full),
    )

pub returns : goal.returns
returns g c =
    let m = g.L.Logic in
    let s = c.args.self.now in
    let z = c.put_away.new.self in
    let R = written (vec_items s.rules.vec) in
    let ks = vec_items c.push.new.self.vec in
    let pushed : (length (vec_items s.scopes.vec) < 32) × (ks ≡ vec_items s.scopes.vec ++ (c.len.result ∷ [])) = search (rules, tests) in
    let same : written (vec_items z.rules.vec) ≡ R = ap (λ v. written (vec_items v.vec)) c.put_away.ensures.rules in
    let count : c.len.result ≡ length R = c.len.ensures.count ∙ sym (length-map (vec_items s.rules.vec) literals_of) in
    let marked : vec_items z.scopes.vec ≡ vec_items s.scopes.vec ++ (length R ∷ []) =
    ap (λ v. vec_items v.vec) c.put_away.ensures.scopes ∙ pushed.1 ∙ ap (λ (n : ℕ). vec_items s.scopes.vec ++ (n ∷ [])) count in
    λ cs rs l.
    let keep = c.put_away.ensures.keeps l.lawful in (
      keep,
      subst₂ (λ (Q : List (List Literal)) (b : Bool). Led (m.theory z.logic) (m.lawful z.logic) (m.stands z.logic) Q (vec_items z.scopes.vec) (vec_items z.choices) b (cs ++ (opens ∷ [])) (rs ++ (granted ∷ [])))
          (sym same) (sym c.put_away.ensures.shown)
          (led_open l (m.theory z.logic) (m.lawful z.logic) (m.stands z.logic) (vec_items z.choices) keep.theory keep.lawful (c.put_away.ensures.bare l.lawful) c.put_away.ensures.choices
          pushed.0 (vec_items z.scopes.vec) marked),
    )
