-- What the logic of trees has: the theory of its sheet, its standing equations, and their tables. Assumes nothing.
use Rattle.std.specs.Prelude.{◌≡◌, ℕ, ◌+◌, ◌*◌, ◌<◌, Bool, not, cond, ◌&&◌, List, [], ◌∷◌, ◌++◌, length, vec_items, nat_lt, slice_index}
use Rattle.logic.specs.Trees.{World}
use Rattle.logic.specs.Theories.{Theory}
use Rattle.logic.specs.Tellings.{Told, Telling}
use Rattle.logic.specs.Tellings.Told.{told}
use Rattle.logic.specs.declared.Equation.{Equation}
use Rattle.groups.specs.Tables.{leads}
use Rattle.terms.specs.Sheets.{Row}
use Rattle.terms.specs.Trees.{trees, tree_telling}
use Rattle.classes.specs.Classes.{class, Settled}
use Rattle.classes.specs.Worlds.{free_group, told_world}
use Rattle.sheet.specs.Models.{arities_of, rows_of}
use Rattle.trees.specs.Terms.{alone, heads_alone}
use Rattle.trees.specs.Layers.{table_at, heads_at, SettledAt, newest_settled}
use Rattle.trees.specs.declared.layer.Layer.{Layer}
use Rattle.trees.specs.declared.history.History.{History}

-- There are 257 layers for the rows rs, and in each of them every term is alone in its class.
pub record Founded (rs : List Row) (ls : List Layer) : Type 0 where
  pub full : length ls ≡ 257
  pub tables : (k : ℕ) → k < 257 → table_at k ls ≡ alone (length rs)
  pub heads : (k : ℕ) → k < 257 → heads_at k ls ≡ heads_alone (length rs) rs

-- The arities of the sheet's symbols, by their numbers.
abbrev pub arities_in : History → List ℕ
arities_in h = arities_of h.sheet

-- The rows of the sheet, by the numbers of the terms.
abbrev pub rows_in : History → List Row
rows_in h = rows_of h.sheet

-- The standing equations, oldest first.
abbrev pub stands_in : History → List Equation
stands_in h = vec_items h.standing.vec

-- The theory of trees on the sheet, and what it tells.
abbrev pub theory_in : History → Theory
theory_in h = trees (arities_in h) (rows_in h)

abbrev pub telling_in : History → Telling
telling_in h = tree_telling (arities_in h) (rows_in h)

-- The table of the classes of forced-equal terms, and the heads of the classes.
abbrev pub table_in : History → List ℕ
table_in h = table_at (length (stands_in h)) (vec_items h.layers)

abbrev pub heads_in : History → List ℕ
heads_in h = heads_at (length (stands_in h)) (vec_items h.layers)

-- They are settled.
pub settled_in : (h : History) → ∥ Settled (rows_in h) (stands_in h) (table_in h) (heads_in h) ∥₁
settled_in h = newest_settled (rows_in h) (stands_in h) (vec_items h.layers) h.settled

-- The told world.
abbrev pub told_in : History → World
told_in h = told_world (arities_in h) (rows_in h) (stands_in h) (table_in h) (heads_in h) h.sheet.table.sheet (settled_in h)

-- The layer after the newest is made for the equation e.
abbrev pub Prepared : History → Equation → Type 0
Prepared h e =
    ∥ SettledAt (rows_in h) (stands_in h ++ (e ∷ [])) (length (stands_in h) + 1) (vec_items h.layers) ∥₁

-- What a table and its heads tell of a name: the head of its class, or else the tower of its group.
abbrev pub told_by_table : List Row → List ℕ → List ℕ → ℕ → Told
told_by_table rs ls hs a =
    cond (nat_lt (slice_index hs (class ls a)) (length rs)) (told 1 (slice_index hs (class ls a))) (told 0 (free_group rs ls hs a * length rs))

-- Whether a term leads a class that has only names, by a table and its heads.
abbrev pub leads_names : List ℕ → List ℕ → ℕ → Bool
leads_names ls hs m = leads ls m && not (nat_lt (slice_index hs m) (length ls))
