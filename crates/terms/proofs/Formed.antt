-- Trees over the symbols of a sheet. Assumes nothing.
use Rattle.std.proofs.Common.{◌≡◌, ℕ, zero, suc, ◌<◌, List, [], ◌∷◌, map, length, get_or, sym, refl, ap, ◌∙◌, arith}
use mathlib.Core.HLevel.{hedberg, Π_prop, ×_prop, ×₃_prop, Unit-prop}
use native.Mathlib.Bridge.{le_prop}
use native.Mathlib.Decide.{ℕ_discrete}
use Rattle.std.proofs.lemmas.List.{length-map}
use Rattle.logic.specs.Trees.{Tree, Forest, World, Symbol, Ground, AllGround, width, tower}
use Rattle.terms.specs.Sheets.{Row, row, Symbols, Writable, Sheet}
use Rattle.terms.specs.Values.{forest, grown, deep, value}
use Rattle.terms.specs.Trees.{Formed, AllFormed, trees}

symbol_prop : (number arity : ℕ) → IsProp (Symbol number arity)
symbol_prop number arity x y i =
    let base_prop : IsProp (number ≡ 0 → arity ≡ 0) = Π_prop λ e. hedberg ℕ_discrete arity 0 in
    let step_prop : IsProp (number ≡ 1 → arity ≡ 1) = Π_prop λ e. hedberg ℕ_discrete arity 1 in
    record { small = le_prop x.small y.small i; base = base_prop x.base y.base i; step = step_prop x.step y.step i }

mutual
  -- to be ground has one proof
  pub ground_prop : (t : Tree) → IsProp (Ground t)
  ground_prop (Tree.node s f) = ×_prop (symbol_prop s (width f)) (all_ground_prop f)

  all_ground_prop : (f : Forest) → IsProp (AllGround f)
  all_ground_prop Forest.none = Unit-prop
  all_ground_prop (Forest.more t f) = ×_prop (ground_prop t) (all_ground_prop f)

module _ (ar : List ℕ) where
  mutual
    -- to be over a sheet's symbols has one proof
    pub formed_prop : (t : Tree) → IsProp (Formed ar t)
    formed_prop (Tree.node s f) = ×₃_prop le_prop (hedberg ℕ_discrete (width f) (get_or ar s 0)) (all_formed_prop f)

    all_formed_prop : (f : Forest) → IsProp (AllFormed ar f)
    all_formed_prop Forest.none = Unit-prop
    all_formed_prop (Forest.more t f) = ×_prop (formed_prop t) (all_formed_prop f)

  width_forest : (ts : List Tree) → width (forest ts) ≡ length ts
  width_forest [] = refl
  width_forest (t ∷ ts) = ap suc (width_forest ts)

  all_formed : (v : ℕ → Tree) (xs : List ℕ) → ((i : ℕ) → i < length xs → Formed ar (v (get_or xs i 0))) → AllFormed ar (forest (map v xs))
  all_formed v [] each = tt
  all_formed v (x ∷ xs) each = (each 0 (omega arith), all_formed v xs (λ i h. each (suc i) (omega arith)))

  -- a symbol over formed trees, as many as its arity, is formed
  pub over_formed : (v : ℕ → Tree) (n s : ℕ) (xs : List ℕ) → Writable ar n s xs → ((x : ℕ) → x < n → Formed ar (v x))
      → Formed ar (Tree.node s (forest (map v xs)))
  over_formed v n s xs written each =
      (written.symbol, width_forest (map v xs) ∙ length-map xs v ∙ written.arity, all_formed v xs (λ i h. each (get_or xs i 0) (written.lower i h)))

  module _ (symbols : Symbols ar) where
    mutual
      -- a formed tree is ground
      pub formed_ground : (t : Tree) → Formed ar t → Ground t
      formed_ground (Tree.node s f) formed = (
        record {
          small = let few = symbols.small s formed.0 in omega (arith, formed.1);
          base = λ e. formed.1 ∙ ap (λ n. get_or ar n 0) e ∙ symbols.base;
          step = λ e. formed.1 ∙ ap (λ n. get_or ar n 0) e ∙ symbols.step;
        },
        all_formed_ground f formed.2,
      )

      all_formed_ground : (f : Forest) → AllFormed ar f → AllGround f
      all_formed_ground Forest.none formed = tt
      all_formed_ground (Forest.more t f) formed = (formed_ground t formed.0, all_formed_ground f formed.1)

    -- a tower is formed
    pub tower_formed : (h : ℕ) → Formed ar (tower h)
    tower_formed zero = (omega arith, sym symbols.base, tt)
    tower_formed (suc h) = (omega arith, sym symbols.step, (tower_formed h, tt))

module _ (ar : List ℕ) (rs : List Row) (sheet : Sheet ar rs) (w : World) (own : (trees ar rs).own w) where
  deep_formed : (d n : ℕ) → n < d → n < length rs → Formed ar (deep d rs w n)
  deep_formed zero n h k = absurd (omega arith)
  deep_formed (suc d) n h k = by_row (λ x l m. deep_formed d x l m) (row rs n) refl
    where
      by_row : ((x : ℕ) → x < d → x < length rs → Formed ar (deep d rs w x)) → (r : Row) → row rs n ≡ r → Formed ar (grown (deep d rs w) (w.tree n) r)
      by_row before Row.name e = own n k e
      by_row before (Row.over s xs) e = over_formed ar (deep d rs w) n s xs (sheet.rows n s xs k e) (λ x l. before x (omega arith) (omega arith))

  -- the value of each term in an own world is formed
  pub value_formed : (n : ℕ) → n < length rs → Formed ar (value rs w n)
  value_formed n h = deep_formed (suc n) n (omega arith) h
