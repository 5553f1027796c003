-- Parents on the way to a flat table. Assumes nothing.
use Rattle.std.specs.Prelude.{◌≡◌, ℕ, ◌<◌, List}
use Rattle.classes.specs.Classes.{class}
use Rattle.unify.specs.Parents.{Parents, Rooted}

-- The terms below k are right under the ones that stand for their classes, and no class has changed.
pub record Flattening (N : ℕ) (ps qs : List ℕ) (k : ℕ) : Type 0 where
  pub parents : Parents N qs
  pub rooted : (f : ℕ → ℕ) → Rooted N ps f → Rooted N qs f
  pub flat : (f : ℕ → ℕ) → Rooted N ps f → (a : ℕ) → a < k → class qs a ≡ f a
