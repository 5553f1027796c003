-- Bringing two terms together. A function gives each term the term that stands for its class. Assumes nothing.
use Rattle.std.specs.Prelude.{◌≡◌, ℕ, ◌<◌, ◌≤◌, Bool, true, false, cond, ◌&&◌, ◌⊎◌, List, length, ◌==◌, slice_index}
use Rattle.logic.specs.Trees.{Tree}
use Rattle.terms.specs.Sheets.{Row, row, Compound}
use Rattle.terms.specs.Values.{Solves}
use Rattle.classes.specs.Classes.{Respects, Closed}
use Rattle.unify.specs.Parents.{Rooted}

-- What is of one class by f is of one class by g.
abbrev pub Coarser : ℕ → (ℕ → ℕ) → (ℕ → ℕ) → Type 0
Coarser N f g = (a b : ℕ) → a < N → b < N → f a ≡ f b → g a ≡ g b

-- For each class, at the term that stands for it, hs has a compound term of the class, or no term's number where the class
-- has only names.
pub record Tops (rs : List Row) (f : ℕ → ℕ) (hs : List ℕ) : Type 0 where
  pub some : (a : ℕ) → a < length rs → f a ≡ a → slice_index hs a < length rs → (f (slice_index hs a) ≡ a) × Compound (row rs (slice_index hs a))
  pub each : (t : ℕ) → t < length rs → Compound (row rs t) → slice_index hs (f t) < length rs

-- What merging makes of the classes f: classes g that are coarser, and in which what is owed to close them can be paid by
-- any coarser classes that close f.
pub record Merged (rs : List Row) (f g : ℕ → ℕ) : Type 0 where
  pub coarser : Coarser (length rs) f g
  pub closes : (w : ℕ → ℕ) → Coarser (length rs) g w → Closed rs f w → Closed rs g w

-- The classes f after a merge that left the parents qs and the heads ks.
pub record Brought (rs : List Row) (f : ℕ → ℕ) (met : (ℕ → ℕ) → Type 0) (agrees : (ℕ → Tree) → Type 0) (qs ks : List ℕ) : Type 0 where
  pub g : ℕ → ℕ
  pub rooted : Rooted (length rs) qs g
  pub tops : Tops rs g ks
  pub merged : Merged rs f g
  pub meets : met g
  pub sound : (v : ℕ → Tree) → Solves rs v → Respects (length rs) f v → agrees v → Respects (length rs) g v

-- What a merge answers. Yes: in the classes that it left `met` holds, and the trees that fit the classes f and agree fit them.
-- No: there are no such trees.
pub record Answer (rs : List Row) (f : ℕ → ℕ) (met : (ℕ → ℕ) → Type 0) (agrees : (ℕ → Tree) → Type 0) (qs ks : List ℕ) (r : Bool) : Type 0 where
  pub brought : r ≡ true → Brought rs f met agrees qs ks
  pub clash : r ≡ false → (v : ℕ → Tree) → Solves rs v → Respects (length rs) f v → agrees v → ⊥

-- The arguments of two terms, from a place on, are pairwise given one thing by f.
abbrev pub Agree : {X : Type 0} → List ℕ → List ℕ → ℕ → (ℕ → X) → Type 0
Agree xs ys at f = (i : ℕ) → at ≤ i → i < length xs → f (slice_index xs i) ≡ f (slice_index ys i)

-- Whether two rows are compound terms with one symbol over as many arguments.
abbrev pub alike : Row → Row → Bool
alike Row.name q = false
alike (Row.over s xs) Row.name = false
alike (Row.over s xs) (Row.over r ys) = s == r && length xs == length ys

-- The classes f with the class that `high` stands for put under `low`.
abbrev pub joined : (ℕ → ℕ) → ℕ → ℕ → ℕ → ℕ
joined f low high a = cond (f a == high) low (f a)

-- g is f with the classes of a and b made one, and no other.
pub record Joining (N : ℕ) (f g : ℕ → ℕ) (a b : ℕ) : Type 0 where
  pub left : a < N
  pub right : b < N
  pub coarser : Coarser N f g
  pub met : g a ≡ g b
  pub cases : (c d : ℕ) → c < N → d < N → g c ≡ g d →
      (f c ≡ f d) ⊎ (((f c ≡ f a) × (f d ≡ f b)) ⊎ ((f c ≡ f b) × (f d ≡ f a)))
