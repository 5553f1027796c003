-- What the newest of the partitions says of the standing equations. Assumes nothing.
use Rattle.std.specs.Prelude.{◌≡◌, ℕ, zero, suc, ◌+◌, ◌<◌, List, [], ◌∷◌, length, take, slice_index_or}
use Rattle.std.proofs.Common.{subst, arith}
use Rattle.std.proofs.Math.Logic.{∥∥₁_map}
use Rattle.std.proofs.Math.Seq.{take-length}
use Rattle.logic.specs.declared.Equation.{Equation}
use Rattle.groups.specs.Tables.{Table}
use Rattle.tags.specs.Tags.{ForcedEqual}
use Rattle.tags.specs.Partitions.{Lowests, Exact}
use Rattle.tags.specs.Layers.{tables, newest, Layers}
use Rattle.tags.specs.declared.partition.Partition.{Partition}
use Rattle.tags.specs.PartitionsLemmas.{exact_plain, exact_table}

-- that the partitions go with the equations holds in one way only
pub layers_plain : (es : List Equation) (ps : List Partition) → ∥ Layers es ps ∥₁ → Layers es ps
layers_plain es ps x k h = exact_plain (take k es) (slice_index_or (tables ps) k []) (∥∥₁_map x (λ y. y k h))

-- the newest is exact for all the standing equations
pub newest_exact : (es : List Equation) (ps : List Partition) → ∥ Layers es ps ∥₁ → Exact es (newest es ps)
newest_exact es ps layers =
    subst (λ (fs : List Equation). Exact fs (newest es ps)) (take-length es) (layers_plain es ps layers (length es) (omega arith))

lowests_at : (ps : List Partition) (k : ℕ) → k < length ps → Lowests (slice_index_or (tables ps) k [])
lowests_at [] k h = absurd (omega arith)
lowests_at (p ∷ ps) zero h = p.lowests
lowests_at (p ∷ ps) (suc k) h = lowests_at ps k (omega arith)

-- and so a table of the lowest members of the groups of forced-equal tags
pub newest_table : (es : List Equation) (ps : List Partition) → length ps ≡ length es + 1 → ∥ Layers es ps ∥₁ → Table 1024 (ForcedEqual es) (newest es ps)
newest_table es ps long layers = exact_table es (newest es ps) (lowests_at ps (length es) (omega arith)) ∣ newest_exact es ps layers ∣₁
