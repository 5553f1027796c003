-- Equations between the terms of a sheet, and terms that are forced equal. Assumes nothing.
use Rattle.std.proofs.Common.{◌≡◌, ℕ, ◌<◌, true, ltb, List, [], ◌∷◌, length, sym, ◌∙◌}
use mathlib.Core.Bool.{Bool-discrete}
use mathlib.Core.HLevel.{hedberg, Π_prop, ×_prop, Unit-prop}
use Rattle.std.proofs.lemmas.Bool.{and_parts, and_from, ltb-true, lt-ltb}
use Rattle.logic.specs.Trees.{World}
use Rattle.logic.specs.Theories.{AllTrue, Forced}
use Rattle.logic.specs.declared.Equation.{Equation}
use Rattle.logic.proofs.Towers.{tree_set}
use Rattle.terms.specs.Sheets.{Row}
use Rattle.terms.specs.Values.{value}
use Rattle.terms.specs.Trees.{trees, ForcedEqual}

module _ (ar : List ℕ) (rs : List Row) where
  -- an equation of the sheet is between two of its terms
  pub between : (e : Equation) → (trees ar rs).has e ≡ true → (e.left < length rs) × (e.right < length rs)
  between e had =
      let both = and_parts (ltb e.left (length rs)) (ltb e.right (length rs)) had in
      (ltb-true e.left (length rs) both.0, ltb-true e.right (length rs) both.1)

  -- any two terms of the sheet have their equation
  pub had : (e : Equation) → e.left < length rs → e.right < length rs → (trees ar rs).has e ≡ true
  had e h k =
      and_from (ltb e.left (length rs)) (ltb e.right (length rs)) (lt-ltb e.left (length rs) h) (lt-ltb e.right (length rs) k)

  -- that equations are true has one proof
  pub true_prop : (w : World) (es : List Equation) → IsProp (AllTrue (trees ar rs) w es)
  true_prop w [] = Unit-prop
  true_prop w (e ∷ es) = ×_prop (tree_set (value rs w e.left) (value rs w e.right)) (true_prop w es)

  module _ (es : List Equation) where
    -- that an equation is forced has one proof
    pub forced_prop : (e : Equation) → IsProp (Forced (trees ar rs) es e)
    forced_prop e =
        ×_prop (hedberg Bool-discrete ((trees ar rs).has e) true)
        (Π_prop λ w. Π_prop λ own. Π_prop λ all. tree_set (value rs w e.left) (value rs w e.right))

    -- what is forced equal is two terms of the sheet
    pub equal_terms : (a b : ℕ) → ForcedEqual ar rs es a b → (a < length rs) × (b < length rs)
    equal_terms a b f = between (record { left = a; right = b }) f.0

    -- being forced equal can be turned round
    pub equal_turned : (a b : ℕ) → ForcedEqual ar rs es a b → ForcedEqual ar rs es b a
    equal_turned a b f =
        let terms = equal_terms a b f in
        (had (record { left = b; right = a }) terms.1 terms.0, λ w own all. sym (f.1 w own all))

    -- and carried on
    pub equal_joined : (a b c : ℕ) → ForcedEqual ar rs es a b → ForcedEqual ar rs es b c → ForcedEqual ar rs es a c
    equal_joined a b c f g = (
      had (record { left = a; right = c }) (equal_terms a b f).0 (equal_terms b c g).1,
      λ w own all. f.1 w own all ∙ g.1 w own all,
    )
