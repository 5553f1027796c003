use Rattle.std.proofs.Common.{◌≡◌, ℕ, ◌<◌, ◌≤◌, Bool, List, [], ◌∷◌, ◌++◌, length, vec_items, sym, refl, ap, ◌∙◌, subst₂, arith, rules, tests, length-take}
use Rattle.std.proofs.lemmas.List.{length-map}
use Rattle.std.proofs.lemmas.Bool.{false≢true}
use Rattle.logic.proofs.Sames.{kept_refl}
use Rattle.rules.specs.declared.Literal.{Literal}
use Rattle.walk.specs.declared.rule.Rule.{Rule}
use Rattle.walk.specs.Written.{literals_of, written}
use Rattle.session.specs.Calls.Asking.{post}
use Rattle.session.specs.Calls.{Answer}
use Rattle.session.specs.Calls.Answer.{granted, refused}
use Rattle.session.specs.Replies.{granted_or}
use Rattle.session.specs.Led.{Led}
use Rattle.session.proofs.Leads.{led_long, led_foreign, led_full, led_post, written_push, pushed_had}
use Rattle.session.proofs.Session.post.Goals as goal

-- a kept rule has at most 16 literals
short_rule : (r : Rule) (x : List Literal) → literals_of r ≡ x → length x ≤ 16
short_rule r x is = omega (arith, r.short, ap length is, length-take r.len r.literals)

pub returns-in_default : goal.returns-in_default
returns-in_default g c =
    let m = g.L.Logic in
    let s = c.args.self.now in
    λ cs rs l. (
      kept_refl (m.theory s.logic) (m.telling s.logic) (m.lawful s.logic) l.lawful,
      led_long l c.args.literals.now c.in_default.ensures,
    )

pub returns-then-not-has_all : goal.returns-then-not-has_all
returns-then-not-has_all g c =
    let m = g.L.Logic in
    let s = c.args.self.now in
    λ cs rs l. (
      kept_refl (m.theory s.logic) (m.telling s.logic) (m.lawful s.logic) l.lawful,
      led_foreign l c.args.literals.now
          (short_rule c.in-Some.rule c.args.literals.now c.in-Some.ensures) (λ had. false≢true ((c.if-not-has_all.ensures l.lawful).1 had)),
    )

pub returns-in_err-add : goal.returns-in_err-add
returns-in_err-add g c =
    let m = g.L.Logic in
    let s = c.args.self.now in
    let x = c.args.literals.now in
    let many : length (vec_items s.rules.vec) ≡ 256 = search (rules, tests) in
    let full : length (written (vec_items s.rules.vec)) ≡ 256 = length-map (vec_items s.rules.vec) literals_of ∙ many in
    let left : vec_items c.add.new.rules.vec ≡ vec_items s.rules.vec = search (rules, tests) in
    let answered : granted_or c.from_residual.result ≡ refused 31 = search (rules, tests) in
    λ cs rs l. (
      kept_refl (m.theory s.logic) (m.telling s.logic) (m.lawful s.logic) l.lawful,
      subst₂ (λ (Q : List Rule) (a : Answer). Led (m.theory s.logic) (m.lawful s.logic) (m.stands s.logic) (written Q) (vec_items s.scopes.vec) (vec_items s.choices) s.shown (cs ++ (post x ∷ [])) (rs ++ (a ∷ [])))
          (sym left) (sym answered) (led_full l x (short_rule c.in-Some.rule x c.in-Some.ensures) ((c.if-not-has_all.ensures l.lawful).0 refl) full),
    )

pub returns : goal.returns
returns g c =
    let m = g.L.Logic in
    let s = c.args.self.now in
    let z = c.put_away.new.self in
    let x = c.args.literals.now in
    let R = written (vec_items s.rules.vec) in
    let push : (length (vec_items s.rules.vec) < 256) × (vec_items c.add.new.rules.vec ≡ vec_items s.rules.vec ++ (c.in-Some.rule ∷ [])) = search (rules, tests) in
    let less : length R < 256 = omega (arith, length-map (vec_items s.rules.vec) literals_of, push.0) in
    let pushed : written (vec_items z.rules.vec) ≡ R ++ (x ∷ []) =
    written_push (vec_items s.rules.vec) (vec_items z.rules.vec) c.in-Some.rule x (ap (λ v. vec_items v.vec) c.put_away.ensures.rules ∙ push.1) c.in-Some.ensures in
    λ cs rs l.
    let keep = c.put_away.ensures.keeps l.lawful in
    let had = (c.if-not-has_all.ensures l.lawful).0 refl in (
      keep,
      subst₂ (λ (ks : List ℕ) (b : Bool). Led (m.theory z.logic) (m.lawful z.logic) (m.stands z.logic) (written (vec_items z.rules.vec)) ks (vec_items z.choices) b (cs ++ (post x ∷ [])) (rs ++ (granted ∷ [])))
          (sym (ap (λ v. vec_items v.vec) c.put_away.ensures.scopes)) (sym c.put_away.ensures.shown)
          (led_post l (m.theory z.logic) (m.lawful z.logic) (m.stands z.logic) (vec_items z.choices) keep.theory keep.lawful (c.put_away.ensures.bare l.lawful) c.put_away.ensures.choices
          x (short_rule c.in-Some.rule x c.in-Some.ensures) had less (written (vec_items z.rules.vec)) pushed
          (pushed_had (m.theory s.logic) R (written (vec_items z.rules.vec)) x pushed l.had had)),
    )
