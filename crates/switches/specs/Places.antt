-- Where each switch stands first. Assumes nothing.
use Rattle.std.specs.Prelude.{◌≡◌, ℕ, ◌<◌, ◌≤◌, List, length, slice_index, slice_index_or}
use Rattle.logic.specs.declared.Equation.{Equation}
use Rattle.switches.specs.Switches.{switched}

-- The switch that the k-th standing equation speaks of.
abbrev pub switch_at : List Equation → ℕ → ℕ
switch_at es k = (slice_index_or es k (switched 0)).left

-- For each standing equation, `first` gives its switch a place no later than its own, and there the switch stands.
abbrev pub Firsts : List Equation → List ℕ → Type 0
Firsts es first = (k : ℕ) → k < length es
    → (slice_index first (switch_at es k) ≤ k) × (switch_at es (slice_index first (switch_at es k)) ≡ switch_at es k)
