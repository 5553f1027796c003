use Rattle.std.proofs.Common.{◌≡◌, ℕ, zero, suc, List, [], take, refl}
use Rattle.logic.specs.declared.Equation.{Equation}
use Rattle.tree_limits.proofs.beacon.BeaconLogic.back.Goals as goal

none : (n : ℕ) → ◌≡◌ {A = List Equation} [] (take n [])
none zero = refl
none (suc n) = refl

pub returns-clause-oldest : goal.returns-clause-oldest
returns-clause-oldest c = λ _. none c.args._n
