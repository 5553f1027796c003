-- What the calls that bring terms together answer and leave behind. Assumes nothing.
use Rattle.std.specs.Prelude.{◌≡◌, ℕ, ◌≤◌, Bool, List, length, Result, is_ok, vec_items, slice_index, slice_index_or}
use Rattle.logic.specs.Trees.{Tree}
use Rattle.unify.specs.Parents.{Parents, Rooted, roots}
use Rattle.unify.specs.Merging.{Tops, Answer}
use Rattle.sheet.specs.declared.rows.Term.{Term}
use Rattle.trees.specs.declared.clash.Clash.{Clash}
use Rattle.trees.specs.declared.layer.Layer.{Layer}
use Rattle.trees.specs.Terms.{rows}

-- By the parents ps, and by qs after some terms were moved up, the term r is of the class of a, and no higher.
pub record Climbs (N : ℕ) (ps qs : List ℕ) (a r : ℕ) : Type 0 where
  pub parents : Parents N qs
  pub low : r ≤ a
  pub kept : (x : ℕ) → slice_index ps x ≡ x → slice_index qs x ≡ x
  pub many : roots qs ≡ roots ps
  pub rooted : (f : ℕ → ℕ) → Rooted N ps f → Rooted N qs f × (f r ≡ f a)

-- By the parents ps, and by qs after it, the term r stands for the class of a.
pub record Found (N : ℕ) (ps qs : List ℕ) (a r : ℕ) : Type 0 where
  pub climbs : Climbs N ps qs a r
  pub own : slice_index_or qs r 0 ≡ r
  pub root : (f : ℕ → ℕ) → Rooted N ps f → r ≡ f a

-- A merge that found the parents ps and the heads hs and left qs and ks: there are no more classes than before, and it
-- answers of the classes that the parents gave.
pub record Merges (ts : List Term) (ps hs qs ks : List ℕ) (met : (ℕ → ℕ) → Type 0) (agrees : (ℕ → Tree) → Type 0) (r : Bool) : Type 0 where
  pub parents : Parents (length ts) qs
  pub fewer : roots qs ≤ roots ps
  pub answer : (f : ℕ → ℕ) → Rooted (length (rows ts)) ps f → Tops (rows ts) f hs → Answer (rows ts) f met agrees qs ks r

-- The merge, of layers: it found l and left m.
abbrev pub Unites : List Term → Layer → Layer → ((ℕ → ℕ) → Type 0) → ((ℕ → Tree) → Type 0) → Result (Unit {0}) Clash → Type 0
Unites ts l m met agrees r = Merges ts (vec_items l.table) (vec_items l.heads) (vec_items m.table) (vec_items m.heads) met agrees (is_ok r)

-- By the layer l, and by m after it, the term r stands for the class of a, and the heads are as they were.
pub record Finds (l m : Layer) (a r : ℕ) : Type 0 where
  pub found : Found (length (vec_items l.table)) (vec_items l.table) (vec_items m.table) a r
  pub heads : vec_items m.heads ≡ vec_items l.heads
