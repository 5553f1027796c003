-- Layers of classes, one for each number of standing equations. Assumes nothing.
use Rattle.std.specs.Prelude.{◌≡◌, ℕ, ◌+◌, ◌<◌, ◌≤◌, List, [], ◌∷◌, ◌++◌, map, length, take, Result, OnOk, OnErr, vec_items, vec_len, slice_index_or, slice_set}
use Rattle.std.proofs.Common.{subst, arith}
use Rattle.std.proofs.Math.Logic.{∥∥₁_map}
use Rattle.std.proofs.Math.Seq.{take-length}
use Rattle.logic.specs.declared.Equation.{Equation}
use Rattle.terms.specs.Sheets.{Row, Sheet}
use Rattle.classes.specs.Classes.{class, Settled}
use Rattle.unify.specs.Settling.{Refuted}
use Rattle.sheet.specs.Models.{arities_of}
use Rattle.trees.specs.declared.clash.Clash.{Clash}
use Rattle.trees.specs.declared.layer.Layer.{Layer}
use Rattle.trees.specs.declared.visits.Visits.{Visits}

-- The table of the layer k.
abbrev pub table_at : ℕ → List Layer → List ℕ
table_at k ls = slice_index_or (map (λ l. vec_items l.table) ls) k []

-- The heads of the layer k.
abbrev pub heads_at : ℕ → List Layer → List ℕ
heads_at k ls = slice_index_or (map (λ l. vec_items l.heads) ls) k []

-- The layer k is settled where the equations es stand.
abbrev pub SettledAt : List Row → List Equation → ℕ → List Layer → Type 0
SettledAt rs es k ls = Settled rs es (table_at k ls) (heads_at k ls)

-- For each number of standing equations the layer is settled where the oldest so many stand.
abbrev pub Layered : List Row → List Equation → List Layer → Type 0
Layered rs es ls = (k : ℕ) → k ≤ length es → SettledAt rs (take k es) k ls

-- The newest layer is settled where all of them stand.
pub newest_settled : (rs : List Row) (es : List Equation) (ls : List Layer) → ∥ Layered rs es ls ∥₁ → ∥ SettledAt rs es (length es) ls ∥₁
newest_settled rs es ls layers =
    ∥∥₁_map layers (λ l. subst (λ (fs : List Equation). SettledAt rs fs (length es) ls) (take-length es) (l (length es) (omega arith)))

-- Each of n layers has a place for each of the rows.
abbrev pub Wide : List Row → List Layer → ℕ → Type 0
Wide rs ls n = (k : ℕ) → k < n → length (table_at k ls) ≡ length rs

-- From the layers ls came ms with another layer after k, for one equation more; or the equation is refuted, and that layer is of
-- no use.
pub record Nexts (rs : List Row) (k : ℕ) (e : Equation) (ls ms : List Layer) (r : Result (Unit {0}) Clash) : Type 0 where
  pub next : Layer
  pub placed : ms ≡ slice_set ls (k + 1) next
  pub wide : vec_len next.table ≡ length rs
  pub settles : OnOk r ((es : List Equation) → SettledAt rs es k ls → Settled rs (es ++ (e ∷ [])) (vec_items next.table) (vec_items next.heads))
  pub refutes : OnErr r (Refuted rs (class (table_at k ls)) e.left e.right)

-- There is a place for each of the rows, and the symbols of the order make them a sheet.
pub record Ready (rs : List Row) (v : Visits) : Type 0 where
  pub marks : vec_len v.marks ≡ length rs
  pub sheet : Sheet (arities_of v.order) rs
