-- The partitions of the standing equations, one for each number of them. Assumes nothing.
use Rattle.std.specs.Prelude.{ℕ, ◌≤◌, List, [], map, length, take, slice_index_or}
use Rattle.logic.specs.declared.Equation.{Equation}
use Rattle.tags.specs.Partitions.{Exact}
use Rattle.tags.specs.declared.partition.Partition.{Partition}

-- The tables of the partitions.
abbrev pub tables : List Partition → List (List ℕ)
tables ps = map (λ p. p.lowest) ps

-- The table of the partition of all the standing equations.
abbrev pub newest : List Equation → List Partition → List ℕ
newest es ps = slice_index_or (tables ps) (length es) []

-- For each number of standing equations the partition is exact for the oldest so many.
abbrev pub Layers : List Equation → List Partition → Type 0
Layers es ps = (k : ℕ) → k ≤ length es → Exact (take k es) (slice_index_or (tables ps) k [])
