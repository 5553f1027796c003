-- Classes of the terms of a sheet. A function f gives each term its class: terms are of one class where f agrees.
-- Assumes nothing.
use Rattle.std.specs.Prelude.{◌≡◌, ℕ, ◌<◌, ◌≤◌, List, [], ◌∷◌, map, length, slice_index}
use Rattle.logic.specs.Trees.{Tree}
use Rattle.logic.specs.declared.Equation.{Equation}
use Rattle.terms.specs.Sheets.{Row, row, arguments, Compound}
use Rattle.terms.specs.Values.{Solves}

-- Each equation is between terms below N, to which f gives one thing.
abbrev pub Joins : {X : Type 0} → ℕ → (ℕ → X) → List Equation → Type 0
Joins N f [] = Unit {0}
Joins N f (e ∷ es) = ((e.left < N) × (e.right < N) × (f e.left ≡ f e.right)) × Joins N f es

-- Terms of one class have one tree.
abbrev pub Respects : ℕ → (ℕ → ℕ) → (ℕ → Tree) → Type 0
Respects N f v = (a b : ℕ) → a < N → b < N → f a ≡ f b → v a ≡ v b

-- Compound terms of one class by f have one symbol, over arguments that are pairwise of one class by g.
abbrev pub Closed : List Row → (ℕ → ℕ) → (ℕ → ℕ) → Type 0
Closed rs f g = (a b s r : ℕ) (xs ys : List ℕ) → a < length rs → b < length rs → f a ≡ f b →
    row rs a ≡ Row.over s xs → row rs b ≡ Row.over r ys → Row.over s (map g xs) ≡ Row.over r (map g ys)

-- Compound terms with one symbol over arguments that are pairwise of one class are of one class.
abbrev pub Congruent : List Row → (ℕ → ℕ) → Type 0
Congruent rs f = (a b s : ℕ) (xs ys : List ℕ) → a < length rs → b < length rs →
    row rs a ≡ Row.over s xs → row rs b ≡ Row.over s ys → map f xs ≡ map f ys → f a ≡ f b

-- The classes can be put in an order in which each comes after those of its members' arguments: no term is inside itself.
pub record Ordered (rs : List Row) (f : ℕ → ℕ) : Type 0 where
  pub rank : ℕ → ℕ
  pub bound : (a : ℕ) → a < length rs → rank a < length rs
  pub level : (a b : ℕ) → a < length rs → b < length rs → f a ≡ f b → rank a ≡ rank b
  pub after : (a i : ℕ) → a < length rs → i < length (arguments (row rs a)) → rank (slice_index (arguments (row rs a)) i) < rank a

-- The class of a term by a table: the table has the lowest member of each term's class.
abbrev pub class : List ℕ → ℕ → ℕ
class ls a = slice_index ls a

-- Each entry of a table for N terms is no higher than its place, and an entry is its own entry.
pub record Lowest (N : ℕ) (ls : List ℕ) : Type 0 where
  pub long : length ls ≡ N
  pub low : (a : ℕ) → a < N → class ls a ≤ a
  pub own : (a : ℕ) → a < N → class ls (class ls a) ≡ class ls a

-- For each class, at its lowest member, hs has the lowest compound term of the class, or no term's number where the class
-- has only names.
pub record Heads (rs : List Row) (ls hs : List ℕ) : Type 0 where
  pub long : length hs ≡ length rs
  pub some : (a : ℕ) → a < length rs → slice_index hs a < length rs → (class ls (slice_index hs a) ≡ a) × Compound (row rs (slice_index hs a))
  pub each : (t : ℕ) → t < length rs → Compound (row rs t) → slice_index hs (class ls t) ≤ t

-- Where es stand, the table ls has the classes of forced-equal terms of the sheet, with the heads hs. (What this says of
-- worlds is proved from it: `Forced` is to be of one class, and there is a freest world.)
pub record Settled (rs : List Row) (es : List Equation) (ls hs : List ℕ) : Type 0 where
  pub lowest : Lowest (length rs) ls
  pub heads : Heads rs ls hs
  pub closed : Closed rs (class ls) (class ls)
  pub congruent : Congruent rs (class ls)
  pub ordered : Ordered rs (class ls)
  pub joins : Joins (length rs) (class ls) es
  pub sound : (v : ℕ → Tree) → Solves rs v → Joins (length rs) v es → Respects (length rs) (class ls) v
