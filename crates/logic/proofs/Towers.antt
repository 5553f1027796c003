-- Towers of different heights differ, and trees are a set. Assumes nothing.
use Rattle.std.proofs.Common.{◌≡◌, ℕ, zero, suc, refl, ap, arith}
use mathlib.Core.HLevel.{hedberg}
use native.Mathlib.Decide.{ℕ_discrete}
use Rattle.logic.specs.Trees.{Tree, tower, Tree-discrete}

pub tower_same : (a b : ℕ) → tower a ≡ tower b → a ≡ b
tower_same zero zero e = refl
tower_same zero (suc b) e = let z : ◌≡◌ {A = ℕ} 0 1 = cc in absurd (omega arith)
tower_same (suc a) zero e = let z : ◌≡◌ {A = ℕ} 0 1 = cc in absurd (omega arith)
tower_same (suc a) (suc b) e = ap suc (tower_same a b (let u : tower a ≡ tower b = cc in u))

pub tree_set : IsSet Tree
tree_set = hedberg (Tree-discrete ℕ_discrete)
