-- The world that a history tells of. Assumes nothing.
use Rattle.std.specs.Prelude.{ℕ, vec_items}
use Rattle.std.proofs.Common.{arith}
use Rattle.logic.specs.Trees.{World}
use Rattle.logic.specs.Theories.{FreestAt}
use Rattle.logic.specs.Tellings.{Told, Names}
use Rattle.groups.specs.Tables.{Table}
use Rattle.tags.specs.Tags.{tags, ForcedEqual, TagTold, tag_telling}
use Rattle.tags.specs.Partitions.{told_by}
use Rattle.tags.specs.Layers.{newest, Layers}
use Rattle.tags.specs.LayersLemmas.{layers_plain, newest_exact, newest_table}
use Rattle.tags.specs.Tells.{tag_freest, tag_named}
use Rattle.tags.specs.declared.history.History.{History}

-- The told world, by the table of the newest partition.
abbrev pub told_in : History → World
told_in h = told_by (newest (vec_items h.standing.vec) (vec_items h.partitions))

-- its partitions go with its equations
pub history_layers : (h : History) → Layers (vec_items h.standing.vec) (vec_items h.partitions)
history_layers h = layers_plain (vec_items h.standing.vec) (vec_items h.partitions) h.layers

-- the newest has the lowest members of the groups of forced-equal tags
pub history_table : (h : History) → Table 1024 (ForcedEqual (vec_items h.standing.vec)) (newest (vec_items h.standing.vec) (vec_items h.partitions))
history_table h =
    newest_table (vec_items h.standing.vec) (vec_items h.partitions) (omega (arith, h.one_more, h.standing.vec.ok.0, h.partitions.ok.0)) h.layers

-- so the told world is a freest one, and what is told names its trees
pub history_freest : (h : History) → FreestAt tags (vec_items h.standing.vec) (told_in h)
history_freest h =
    let es = vec_items h.standing.vec in
    let ps = vec_items h.partitions in
    tag_freest es (newest es ps) (history_table h) ∣ newest_exact es ps h.layers ∣₁

pub history_named : (h : History) (n : ℕ) (a : Told) → TagTold (vec_items h.standing.vec) n a → Names tag_telling (told_in h) a ((told_in h).tree n)
history_named h = tag_named (vec_items h.standing.vec) (newest (vec_items h.standing.vec) (vec_items h.partitions)) (history_table h)
