-- Ground trees and worlds. Assumes nothing.
use Rattle.std.specs.Prelude.{◌≡◌, ℕ, zero, suc, ◌≤◌, refl}
use Rattle.std.proofs.Common.{arith}

mutual
  -- A tree: a symbol's number over its subtrees, first to last.
  pub data Tree : Type 0 where
    node : ℕ → Forest → Tree
    deriving Discrete as Tree-discrete

  -- Some trees side by side.
  pub data Forest : Type 0 where
    none : Forest
    more : Tree → Forest → Forest
    deriving Discrete as Forest-discrete

-- How many trees stand in a forest.
abbrev pub width : Forest → ℕ
width Forest.none = 0
width (Forest.more t f) = suc (width f)

-- A symbol has a number and an arity, the count of its arguments: 0 to 8.
-- Symbol 0 is base, with no argument, and symbol 1 is step, with one.
pub record Symbol (number arity : ℕ) : Type 0 where
  pub small : arity ≤ 8
  pub base : number ≡ 0 → arity ≡ 0
  pub step : number ≡ 1 → arity ≡ 1

abbrev mutual
  -- The tree is ground: each symbol in it stands over as many trees as its arity.
  pub Ground : Tree → Type 0
  Ground (Tree.node s f) = Symbol s (width f) × AllGround f

  -- Each tree of the forest is ground.
  pub AllGround : Forest → Type 0
  AllGround Forest.none = Unit {0}
  AllGround (Forest.more t f) = Ground t × AllGround f

-- Base alone, and a step over a tree.
abbrev pub base : Tree
base = Tree.node 0 Forest.none

abbrev pub step : Tree → Tree
step t = Tree.node 1 (Forest.more t Forest.none)

-- The tower of height h: h steps over base.
abbrev pub tower : ℕ → Tree
tower zero = base
tower (suc h) = step (tower h)

-- A world gives one ground tree to each whole number.
pub record World : Type 0 where
  pub tree : ℕ → Tree
  pub grounded : (n : ℕ) → Ground (tree n)

-- A tower is ground.
pub tower_ground : (h : ℕ) → Ground (tower h)
tower_ground zero = (record { small = omega arith; base = λ e. refl; step = λ e. absurd (omega arith) }, tt)
tower_ground (suc h) =
    (record { small = omega arith; base = λ e. absurd (omega arith); step = λ e. refl }, (tower_ground h, tt))

-- The world of towers of these heights.
abbrev pub towers : (ℕ → ℕ) → World
towers h = record { tree = λ n. tower (h n); grounded = λ n. tower_ground (h n) }
