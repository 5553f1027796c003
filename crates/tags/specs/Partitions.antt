-- Partitions of the tags, by tables of lowest members. Assumes nothing.
use Rattle.std.specs.Prelude.{◌≡◌, ℕ, ◌<◌, ◌≤◌, min, max, cond, List, map, length, ◌==◌, slice_index, slice_index_or}
use Rattle.logic.specs.Trees.{World, towers}
use Rattle.logic.specs.Theories.{AllTrue}
use Rattle.logic.specs.declared.Equation.{Equation}
use Rattle.groups.specs.Tables.{group_of}
use Rattle.tags.specs.Tags.{tags, agree}

-- Each entry is no higher than its place, and an entry is its own entry.
abbrev pub Lowests : List ℕ → Type 0
Lowests ls = (i : ℕ) → i < 1024 → (slice_index ls i ≤ i) × (slice_index ls (slice_index ls i) ≡ slice_index ls i)

-- The table has what the equations es say and no more: they are between tags, both sides of each have one entry, and
-- every world that makes them all true gives a tag and its entry one tree.
pub record Exact (es : List Equation) (ls : List ℕ) : Type 0 where
  pub had : (k : ℕ) → k < length es → ((slice_index_or es k (agree 0 0)).left < 1024) × ((slice_index_or es k (agree 0 0)).right < 1024)
  pub joins : (k : ℕ) → k < length es → slice_index ls (slice_index_or es k (agree 0 0)).left ≡ slice_index ls (slice_index_or es k (agree 0 0)).right
  pub sound : (w : World) → AllTrue tags w es → (i : ℕ) → i < 1024 → w.tree i ≡ w.tree (slice_index ls i)

-- The table of the partition after the groups of a and b are made one: the lower of their entries takes the place of the
-- higher.
abbrev pub joining : List ℕ → ℕ → ℕ → List ℕ
joining ls a b = map (λ x. cond (x == max (slice_index ls a) (slice_index ls b)) (min (slice_index ls a) (slice_index ls b)) x) ls

-- The told world by a table: each tag has a tower, as high as the number of its group.
abbrev pub told_by : List ℕ → World
told_by ls = towers (group_of ls)
