-- Forced equations, clashes and freest worlds of two theories side by side, by those of the sides. Assumes nothing.
use Rattle.std.proofs.Common.{◌≡◌, ℕ, true, false, List, [], ◌∷◌, Some, None, Option, sym, refl, ap, ◌∙◌, subst, arith}
use Rattle.logic.specs.Trees.{World}
use Rattle.logic.specs.Theories.{Theory, Same, AllTrue, Forced, Clash, FreestAt}
use Rattle.logic.specs.declared.Equation.{Equation}
use Rattle.sides.specs.declared.Side.{Side}
use Rattle.sides.specs.declared.Side.TheVariants.{First, Second}
use Rattle.sides.specs.Sides.{part_of, only, keep, share, world_of, joined}
use Rattle.sides.specs.Pairs.{had, Holds, paired}
use Rattle.sides.proofs.Worlds.{world_joined}

-- a test has one value
pub never : {A : Type 0} → false ≡ true → A
never e = let z : ◌≡◌ {A = ℕ} 0 1 = cc in absurd (omega arith)

-- the two worlds with another one on the side s
abbrev replaced : Side → World → (Side → World) → Side → World
replaced First v ws First = v
replaced First v ws Second = ws Second
replaced Second v ws First = ws First
replaced Second v ws Second = v

replaced_at : (s : Side) (v : World) (ws : Side → World) → replaced s v ws s ≡ v
replaced_at First v ws = refl
replaced_at Second v ws = refl

replaced_each : (P : Side → World → Type 0) (s : Side) (v : World) (ws : Side → World) → P s v → ((k : Side) → P k (ws k)) → (k : Side) → P k (replaced s v ws k)
replaced_each P First v ws p each First = p
replaced_each P First v ws p each Second = each Second
replaced_each P Second v ws p each First = each First
replaced_each P Second v ws p each Second = p

module _ (ts : Side → Theory) where
  -- what a world makes true, by its sides
  only_all : (w : World) (s k : Side) (d : Equation) (es : List Equation) → (ts k).holds (world_of k w) d → AllTrue (ts s) (world_of s w) es → AllTrue (ts s) (world_of s w) (only s k d es)
  only_all w First First d es h all = (h, all)
  only_all w First Second d es h all = all
  only_all w Second First d es h all = all
  only_all w Second Second d es h all = (h, all)

  keep_all : (w : World) (s : Side) (o : Option (Side × Equation)) (es : List Equation) → Holds ts w o → AllTrue (ts s) (world_of s w) es → AllTrue (ts s) (world_of s w) (keep s o es)
  keep_all w s None es h all = all
  keep_all w s (Some p) es h all = only_all w s p.0 p.1 es h all

  all_share : (w : World) (s : Side) (es : List Equation) → AllTrue (paired ts) w es → AllTrue (ts s) (world_of s w) (share s es)
  all_share w s [] all = tt
  all_share w s (e ∷ es) all = keep_all w s (part_of e) (share s es) all.0 (all_share w s es all.1)

  all_only : (w : World) (k : Side) (d : Equation) (rest : Side → List Equation) → ((s : Side) → AllTrue (ts s) (world_of s w) (only s k d (rest s)))
      → (ts k).holds (world_of k w) d × ((s : Side) → AllTrue (ts s) (world_of s w) (rest s))
  all_only w First d rest all = ((all First).0, λ s. elim s as (λ x. AllTrue (ts x) (world_of x w) (rest x)) [ First ↦ (all First).1 | Second ↦ all Second ])
  all_only w Second d rest all = ((all Second).0, λ s. elim s as (λ x. AllTrue (ts x) (world_of x w) (rest x)) [ First ↦ all First | Second ↦ (all Second).1 ])

  all_keep : (w : World) (o : Option (Side × Equation)) (rest : Side → List Equation) → ((s : Side) → AllTrue (ts s) (world_of s w) (keep s o (rest s)))
      → Holds ts w o × ((s : Side) → AllTrue (ts s) (world_of s w) (rest s))
  all_keep w None rest all = (tt, all)
  all_keep w (Some p) rest all = all_only w p.0 p.1 rest all

  share_all : (w : World) (es : List Equation) → ((s : Side) → AllTrue (ts s) (world_of s w) (share s es)) → AllTrue (paired ts) w es
  share_all w [] all = tt
  share_all w (e ∷ es) all =
      let both = all_keep w (part_of e) (λ s. share s es) all in
      (both.0, share_all w es both.1)

  -- two own worlds that make the shares true make one that is own and makes all true
  joined_true : (ws : Side → World) (es : List Equation) → ((s : Side) → (ts s).own (ws s)) → ((s : Side) → AllTrue (ts s) (ws s) (share s es))
      → ((paired ts).own (joined ws)) × AllTrue (paired ts) (joined ws) es
  joined_true ws es own all = (
    λ s. subst (λ w. (ts s).own w) (sym (world_joined ws s)) (own s),
    share_all (joined ws) es (λ s. subst (λ w. AllTrue (ts s) w (share s es)) (sym (world_joined ws s)) (all s)),
  )

  -- an equation that is the part d of the side s
  module _ (e : Equation) (s : Side) (d : Equation) (is : part_of e ≡ Some (s, d)) where
    pub has_part : (paired ts).has e ≡ (ts s).has d
    has_part = ap (had ts) is

    holds_part : (w : World) → (paired ts).holds w e → (ts s).holds (world_of s w) d
    holds_part w = subst (λ o. Holds ts w o) is

    part_holds : (w : World) → (ts s).holds (world_of s w) d → (paired ts).holds w e
    part_holds w = subst (λ o. Holds ts w o) (sym is)

    module _ (es : List Equation) where
      pub part_forced : Forced (ts s) (share s es) d → Forced (paired ts) es e
      part_forced f = (has_part ∙ f.0, λ w own all. part_holds w (f.1 (world_of s w) (own s) (all_share w s es all)))

      pub part_clash : Clash (ts s) (share s es) d → Clash (paired ts) es e
      part_clash c w own all h = c (world_of s w) (own s) (all_share w s es all) (holds_part w h)

      module _ (ws : Side → World) (free : (k : Side) → FreestAt (ts k) (share k es) (ws k)) where
        -- a world of the side s, beside the other side's freest world
        beside : (v : World) → (ts s).own v → AllTrue (ts s) v (share s es) → ((paired ts).own (joined (replaced s v ws))) × AllTrue (paired ts) (joined (replaced s v ws)) es
        beside v own all =
            joined_true (replaced s v ws) es (replaced_each (λ k x. (ts k).own x) s v ws own (λ k. (free k).own)) (replaced_each (λ k x. AllTrue (ts k) x (share k es)) s v ws all (λ k. (free k).all))

        here : (v : World) → world_of s (joined (replaced s v ws)) ≡ v
        here v = world_joined (replaced s v ws) s ∙ replaced_at s v ws

        pub forced_part : Forced (paired ts) es e → Forced (ts s) (share s es) d
        forced_part f = (
          sym has_part ∙ f.0,
          λ v own all.
              let both = beside v own all in
              subst (λ x. (ts s).holds x d) (here v) (holds_part (joined (replaced s v ws)) (f.1 (joined (replaced s v ws)) both.0 both.1)),
        )

        pub clash_part : Clash (paired ts) es e → Clash (ts s) (share s es) d
        clash_part c v own all h =
            let both = beside v own all in
            c (joined (replaced s v ws)) both.0 both.1 (part_holds (joined (replaced s v ws)) (subst (λ x. (ts s).holds x d) (sym (here v)) h))

  -- freest worlds of the sides make a freest world
  module _ (es : List Equation) (ws : Side → World) (free : (k : Side) → FreestAt (ts k) (share k es) (ws k)) where
    free_part : (e : Equation) (o : Option (Side × Equation)) → part_of e ≡ o → (paired ts).has e ≡ true → (paired ts).holds (joined ws) e → Forced (paired ts) es e
    free_part e None is has holds = never (sym (ap (had ts) is) ∙ has)
    free_part e (Some p) is has holds =
        part_forced e p.0 p.1 is es
        ((free p.0).free p.1 (sym (has_part e p.0 p.1 is) ∙ has) (subst (λ w. (ts p.0).holds w p.1) (world_joined ws p.0) (holds_part e p.0 p.1 is (joined ws) holds)))

    pub freest_joined : FreestAt (paired ts) es (joined ws)
    freest_joined =
        let both = joined_true ws es (λ k. (free k).own) (λ k. (free k).all) in
        record { own = both.0; all = both.1; free = λ e has holds. free_part e (part_of e) refl has holds }

-- theories that agree side by side
module _ (ts us : Side → Theory) (same : (s : Side) → Same (us s) (ts s)) where
  had_same : (o : Option (Side × Equation)) → had us o ≡ had ts o
  had_same None = refl
  had_same (Some p) = (same p.0).has p.1

  holds_same : (w : World) (o : Option (Side × Equation)) → (Holds us w o → Holds ts w o) × (Holds ts w o → Holds us w o)
  holds_same w None = (λ x. x, λ x. x)
  holds_same w (Some p) = (same p.0).holds (world_of p.0 w) p.1

  pub same_paired : Same (paired us) (paired ts)
  same_paired =
      record {
        has = λ e. had_same (part_of e);
        own = λ w. (λ x s. ((same s).own (world_of s w)).0 (x s), λ x s. ((same s).own (world_of s w)).1 (x s));
        holds = λ w e. holds_same w (part_of e);
      }
