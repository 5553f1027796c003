-- Classes of terms by parents: a term's class is that of its parent, and a term that is its own parent stands for its
-- class. Assumes nothing.
use Rattle.std.specs.Prelude.{◌≡◌, ℕ, ◌<◌, ◌≤◌, List, length, slice_index}
use Rattle.groups.specs.Tables.{leads, tally}

-- Each of N terms has a parent, no higher than itself.
pub record Parents (N : ℕ) (ps : List ℕ) : Type 0 where
  pub long : length ps ≡ N
  pub low : (a : ℕ) → a < N → slice_index ps a ≤ a

-- By these parents f gives each term the term that stands for its class.
pub record Rooted (N : ℕ) (ps : List ℕ) (f : ℕ → ℕ) : Type 0 where
  pub up : (a : ℕ) → a < N → f (slice_index ps a) ≡ f a
  pub top : (a : ℕ) → a < N → slice_index ps a ≡ a → f a ≡ a
  pub own : (a : ℕ) → a < N → slice_index ps (f a) ≡ f a
  pub low : (a : ℕ) → a < N → f a ≤ a

-- How many classes there are: the terms that are their own parents.
unfoldable pub roots : List ℕ → ℕ
roots ps = tally (leads ps) (length ps)
