-- What a settled table decides: the told world is a freest one, terms are forced equal where they are of one class, and an
-- equation clashes where no trees that fit the table make it true. Assumes nothing.
use Rattle.std.proofs.Common.{◌≡◌, ℕ, ◌<◌, ltb, ◌↔◌, List, [], ◌∷◌, ◌++◌, length, sym, ◌∙◌, subst}
use mathlib.Core.HLevel.{hedberg, ⊥_prop}
use mathlib.Core.Logic.{∥∥₁_elim}
use native.Mathlib.Decide.{ℕ_discrete}
use Rattle.std.proofs.lemmas.Bool.{lt-ltb, cond-true}
use Rattle.logic.specs.Trees.{Tree, World, base}
use Rattle.logic.specs.Theories.{AllTrue, Clash, FreestAt}
use Rattle.logic.specs.declared.Equation.{Equation}
use Rattle.logic.proofs.Trues.{all_older, all_newest}
use Rattle.terms.specs.Sheets.{Row, Sheet}
use Rattle.terms.specs.Values.{Solves, value}
use Rattle.terms.specs.Trees.{Formed, trees, ForcedEqual}
use Rattle.terms.proofs.Values.{value_is, value_single}
use Rattle.terms.proofs.Formed.{formed_prop}
use Rattle.terms.proofs.Forced.{between, had, true_prop, forced_prop}
use Rattle.classes.specs.Classes.{Joins, Respects, class, Settled}
use Rattle.classes.specs.Worlds.{told_tree, told_formed, told_at, told_world}
use Rattle.classes.proofs.Free.{told_same, tree_solves, tree_apart}

-- the told world has the tree of a term's class for the term
pub told_term : (rs : List Row) (ls hs : List ℕ) (n : ℕ) → n < length rs → told_at rs ls hs n ≡ told_tree rs ls hs (length rs) n
told_term rs ls hs n h = cond-true (ltb n (length rs)) (told_tree rs ls hs (length rs) n) base (lt-ltb n (length rs) h)

-- equations between terms, where they are true, join the terms' values
joins_values : {X : Type 0} (ar : List ℕ) (rs : List Row) (f : ℕ → X) (w : World) (es : List Equation)
    → Joins (length rs) f es → AllTrue (trees ar rs) w es → Joins (length rs) (value rs w) es
joins_values ar rs f w [] joins all = tt
joins_values ar rs f w (e ∷ es) joins all =
    ((joins.0.0, joins.0.1, all.0), joins_values ar rs f w es joins.1 all.1)

module _ (ar : List ℕ) (rs : List Row) (es : List Equation) (ls hs : List ℕ) where
  -- where the equations are true, terms of one class have one value
  respected : Sheet ar rs → Settled rs es ls hs → (w : World) → AllTrue (trees ar rs) w es → Respects (length rs) (class ls) (value rs w)
  respected sheet settled w all =
      settled.sound (value rs w) (value_is ar rs sheet w).compound (joins_values ar rs (class ls) w es settled.joins all)

  module _ (sheets : ∥ Sheet ar rs ∥₁) (settleds : ∥ Settled rs es ls hs ∥₁) where
    -- what follows from a sheet and a settled table follows from their truncations, where it has one proof
    pub from_both : {P : Type 0} → IsProp P → (Sheet ar rs → Settled rs es ls hs → P) → P
    from_both prop given = ∥∥₁_elim sheets prop (λ sheet. ∥∥₁_elim settleds prop (given sheet))

    abbrev world : World
    world = told_world ar rs es ls hs sheets settleds

    -- in the told world each term has the tree of its class
    value_told : Sheet ar rs → Settled rs es ls hs → (n : ℕ) → n < length rs → value rs world n ≡ told_tree rs ls hs (length rs) n
    value_told sheet settled n h =
        sym (value_single ar rs sheet world (told_tree rs ls hs (length rs))
        (record { name = λ m k e. sym (told_term rs ls hs m k); compound = tree_solves ar rs es ls hs sheet settled }) n h)

    told_true : Sheet ar rs → Settled rs es ls hs → (fs : List Equation) → Joins (length rs) (class ls) fs → AllTrue (trees ar rs) world fs
    told_true sheet settled [] joins = tt
    told_true sheet settled (e ∷ fs) joins = (
      value_told sheet settled e.left joins.0.0
          ∙ told_same rs ls hs (length rs) e.left e.right joins.0.2
          ∙ sym (value_told sheet settled e.right joins.0.1),
      told_true sheet settled fs joins.1,
    )

    told_class : Sheet ar rs → Settled rs es ls hs → (a b : ℕ) → a < length rs → b < length rs → value rs world a ≡ value rs world b
        → class ls a ≡ class ls b
    told_class sheet settled a b h k e =
        tree_apart ar rs es ls hs sheet settled a b h k (sym (value_told sheet settled a h) ∙ e ∙ value_told sheet settled b k)

    class_forced : (a b : ℕ) → a < length rs → b < length rs → class ls a ≡ class ls b → ForcedEqual ar rs es a b
    class_forced a b h k e =
        from_both (forced_prop ar rs es (record { left = a; right = b }))
        (λ sheet settled. (had ar rs (record { left = a; right = b }) h k, λ w own all. respected sheet settled w all a b h k e))

    told_own : (trees ar rs).own world
    told_own n h e =
        ∥∥₁_elim sheets (formed_prop ar (world.tree n))
        (λ sheet. subst (Formed ar) (sym (told_term rs ls hs n h)) (told_formed rs ls hs ar sheet (length rs) n))

    told_all : AllTrue (trees ar rs) world es
    told_all = from_both (true_prop ar rs world es) (λ sheet settled. told_true sheet settled es settled.joins)

    -- terms are forced equal exactly when they are of one class
    pub forced_class : (a b : ℕ) → a < length rs → b < length rs → ForcedEqual ar rs es a b ↔ (class ls a ≡ class ls b)
    forced_class a b h k = (
      λ f. from_both (hedberg ℕ_discrete (class ls a) (class ls b))
          (λ sheet settled. told_class sheet settled a b h k (f.1 world told_own told_all)),
      class_forced a b h k,
    )

    -- the told world is a freest one
    pub told_freest : FreestAt (trees ar rs) es (told_world ar rs es ls hs sheets settleds)
    told_freest =
        record {
          own = told_own;
          all = told_all;
          free = λ e has holds.
              let terms = between ar rs e has in
              class_forced e.left e.right terms.0 terms.1
              (from_both (hedberg ℕ_discrete (class ls e.left) (class ls e.right))
              (λ sheet settled. told_class sheet settled e.left e.right terms.0 terms.1 holds));
        }

-- an equation that a settled table has taken does not clash with those before it
pub settled_fits : (ar : List ℕ) (rs : List Row) (es : List Equation) (ls hs : List ℕ) (e : Equation) → ∥ Sheet ar rs ∥₁
    → ∥ Settled rs (es ++ (e ∷ [])) ls hs ∥₁ → Clash (trees ar rs) es e → ⊥
settled_fits ar rs es ls hs e sheets settleds clash =
    let world = told_world ar rs (es ++ (e ∷ [])) ls hs sheets settleds in
    let freest = told_freest ar rs (es ++ (e ∷ [])) ls hs sheets settleds in
    clash world freest.own (all_older (trees ar rs) world es e freest.all) (all_newest (trees ar rs) world es e freest.all)

-- an equation clashes where no trees that fit the rows and the classes make it true
pub refuted_clash : (ar : List ℕ) (rs : List Row) (es : List Equation) (ls hs : List ℕ) (e : Equation) → ∥ Sheet ar rs ∥₁
    → ∥ Settled rs es ls hs ∥₁ → ((v : ℕ → Tree) → Solves rs v → Respects (length rs) (class ls) v → v e.left ≡ v e.right → ⊥)
    → e.left < length rs → e.right < length rs → Clash (trees ar rs) es e
refuted_clash ar rs es ls hs e sheets settleds refuted h k w own all holds =
    from_both ar rs es ls hs sheets settleds ⊥_prop
    (λ sheet settled. refuted (value rs w) (value_is ar rs sheet w).compound (respected ar rs es ls hs sheet settled w all) holds)
