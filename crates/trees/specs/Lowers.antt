-- A table on the way to the lowest term of each number. Assumes nothing.
use Rattle.std.specs.Prelude.{◌≡◌, ℕ, ◌<◌, ◌≤◌, List, length, slice_index}
use Rattle.unify.specs.Firsts.{Firsts}

-- From the table ts, by the numbers g, the table us has the lowest term of the same number for each term below n, and is as it
-- was from there on.
pub record Lowering (g : ℕ → ℕ) (ts us L : List ℕ) (n : ℕ) : Type 0 where
  pub long : length us ≡ length ts
  pub wide : length L ≡ length ts
  pub firsts : Firsts (λ x. Unit {0}) g (length ts) n L
  pub done : (a : ℕ) → a < n → slice_index us a ≡ slice_index L (g a)
  pub rest : (a : ℕ) → n ≤ a → slice_index us a ≡ slice_index ts a
