-- What theories that agree have in common. Assumes nothing.
use mathlib.Core.Path.{sym, ◌∙◌}
use mathlib.Core.List.{List, [], ◌∷◌}
use mathlib.Core.Logic.{inl, inr}
use Prim.Native.Nat.{ℕ}
use lib.ListN.{get_or}
use Rattle.logic.specs.Trees.{World}
use Rattle.logic.specs.Theories.{Theory, Same, AllTrue, Forced, Clash, Freest}
use Rattle.logic.specs.declared.Equation.{Equation}
use Rattle.rules.specs.declared.Literal.{Literal}
use Rattle.rules.specs.declared.Literal.TheVariants as V
use Rattle.rules.specs.Rules.{equations, denied, Meets, AllHad, Had, HadAll}
use Rattle.rules.specs.Openness.{AllForced, NoneForced, Open, Settled, TakenRule}
use Rattle.rules.specs.Laws.{Example}
use Rattle.rules.specs.Walks.{End, Walk, Tries}
use Rattle.rules.specs.Walks.Walk.{settled, takes}
use Rattle.rules.specs.Walks.Tries.{tried, spends, clashes, returns, finds, runs_out}

module _ (t u : Theory) (s : Same t u) where
  pub true_moved : (w : World) (es : List Equation) → AllTrue t w es → AllTrue u w es
  true_moved w [] all = tt
  true_moved w (e ∷ es) all = ((s.holds w e).0 all.0, true_moved w es all.1)

  pub true_back : (w : World) (es : List Equation) → AllTrue u w es → AllTrue t w es
  true_back w [] all = tt
  true_back w (e ∷ es) all = ((s.holds w e).1 all.0, true_back w es all.1)

  pub forced_moved : (S : List Equation) (e : Equation) → Forced t S e → Forced u S e
  forced_moved S e f = (sym (s.has e) ∙ f.0, λ w own all. (s.holds w e).0 (f.1 w ((s.own w).1 own) (true_back w S all)))

  pub forced_back : (S : List Equation) (e : Equation) → Forced u S e → Forced t S e
  forced_back S e f = (s.has e ∙ f.0, λ w own all. (s.holds w e).1 (f.1 w ((s.own w).0 own) (true_moved w S all)))

  pub clash_moved : (S : List Equation) (e : Equation) → Clash t S e → Clash u S e
  clash_moved S e c = λ w own all h. c w ((s.own w).1 own) (true_back w S all) ((s.holds w e).1 h)

  pub clash_back : (S : List Equation) (e : Equation) → Clash u S e → Clash t S e
  clash_back S e c = λ w own all h. c w ((s.own w).0 own) (true_moved w S all) ((s.holds w e).0 h)

  pub had_moved : (es : List Equation) → AllHad t es → AllHad u es
  had_moved [] had = tt
  had_moved (e ∷ es) had = (sym (s.has e) ∙ had.0, had_moved es had.1)

  pub rule_moved : (r : List Literal) → Had t r → Had u r
  rule_moved r had = (had_moved (equations r) had.0, had_moved (denied r) had.1)

  pub rules_moved : (R : List (List Literal)) → HadAll t R → HadAll u R
  rules_moved R had = λ k h. rule_moved (get_or R k []) (had k h)

  pub meets_moved : (w : World) (r : List Literal) → Meets t w r → Meets u w r
  meets_moved w [] m = m
  meets_moved w (V.Equal e ∷ r) (inl h) = inl ((s.holds w e).0 h)
  meets_moved w (V.Equal e ∷ r) (inr m) = inr (meets_moved w r m)
  meets_moved w (V.Denied e ∷ r) (inl h) = inl (λ k. h ((s.holds w e).1 k))
  meets_moved w (V.Denied e ∷ r) (inr m) = inr (meets_moved w r m)

  all_moved : (S es : List Equation) → AllForced t S es → AllForced u S es
  all_moved S [] f = tt
  all_moved S (e ∷ es) f = (forced_moved S e f.0, all_moved S es f.1)

  all_back : (S es : List Equation) → AllForced u S es → AllForced t S es
  all_back S [] f = tt
  all_back S (e ∷ es) f = (forced_back S e f.0, all_back S es f.1)

  pub none_moved : (S es : List Equation) → NoneForced t S es → NoneForced u S es
  none_moved S [] f = tt
  none_moved S (e ∷ es) f = (λ g. f.0 (forced_back S e g), none_moved S es f.1)

  pub none_back : (S es : List Equation) → NoneForced u S es → NoneForced t S es
  none_back S [] f = tt
  none_back S (e ∷ es) f = (λ g. f.0 (forced_moved S e g), none_back S es f.1)

  pub open_moved : (S : List Equation) (r : List Literal) → Open t S r → Open u S r
  open_moved S r o = (all_moved S (denied r) o.0, none_moved S (equations r) o.1)

  pub open_back : (S : List Equation) (r : List Literal) → Open u S r → Open t S r
  open_back S r o = (all_back S (denied r) o.0, none_back S (equations r) o.1)

  pub settled_moved : (S : List Equation) (r : List Literal) → Settled t S r → Settled u S r
  settled_moved S [] m = m
  settled_moved S (V.Equal e ∷ r) (inl f) = inl (forced_moved S e f)
  settled_moved S (V.Equal e ∷ r) (inr m) = inr (settled_moved S r m)
  settled_moved S (V.Denied e ∷ r) (inl f) = inl (λ g. f (forced_back S e g))
  settled_moved S (V.Denied e ∷ r) (inr m) = inr (settled_moved S r m)

  pub taken_moved : (S : List Equation) (R : List (List Literal)) (k : ℕ) → TakenRule t S R k → TakenRule u S R k
  taken_moved S R k p =
      record {
        within = p.within;
        opens = open_moved S (get_or R k []) p.opens;
        fewest = λ j h o. p.fewest j h (open_back S (get_or R j []) o);
        earliest = λ j h o. p.earliest j h (open_back S (get_or R j []) o);
      }

  pub freest_moved : (S : List Equation) → Freest t S → Freest u S
  freest_moved S f = (
    f.0,
    record {
      own = (s.own f.0).0 f.1.own;
      all = true_moved f.0 S f.1.all;
      free = λ e had h. forced_moved S e (f.1.free e (s.has e ∙ had) ((s.holds f.0 e).1 h));
    },
  )

  pub example_moved : (R : List (List Literal)) (C : List Equation) → Example t R C → Example u R C
  example_moved R C x =
      record {
        few = x.few;
        world = x.world;
        own = (s.own x.world).0 x.own;
        choices = true_moved x.world C x.choices;
        meets = λ k h. meets_moved x.world (get_or R k []) (x.meets k h);
        exactly = λ e had.
            let there = x.exactly e (s.has e ∙ had) in (
              λ h w own all. (s.holds w e).0 (there.0 ((s.holds x.world e).1 h) w ((s.own w).1 own) (true_back w C all)),
              λ every. (s.holds x.world e).0 (there.1 (λ w own all. (s.holds w e).1 (every w ((s.own w).0 own) (true_moved w C all)))),
            );
      }

  module _ (R : List (List Literal)) (b : ℕ) where
    mutual
      pub walk_moved : {S : List Equation} {n m : ℕ} {o : End} → Walk t R b S n m o → Walk u R b S n m o
      walk_moved (settled {S = S} none) = settled (λ k h. settled_moved S (get_or R k []) (none k h))
      walk_moved (takes {S = S} k p ts) = takes k (taken_moved S R k p) (tries_moved ts)

      pub tries_moved : {S es : List Equation} {n m : ℕ} {o : End} → Tries t R b S es n m o → Tries u R b S es n m o
      tries_moved tried = tried
      tries_moved (spends p) = spends p
      tries_moved (clashes {S = S} {e = e} p c ts) = clashes p (clash_moved S e c) (tries_moved ts)
      tries_moved (returns {S = S} {e = e} p c v ts) = returns p (λ d. c (clash_back S e d)) (walk_moved v) (tries_moved ts)
      tries_moved (finds {S = S} {e = e} p c v) = finds p (λ d. c (clash_back S e d)) (walk_moved v)
      tries_moved (runs_out {S = S} {e = e} p c v) = runs_out p (λ d. c (clash_back S e d)) (walk_moved v)
