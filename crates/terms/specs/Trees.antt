-- The theory of trees on a sheet, and what is told of each name. Assumes nothing.
use Rattle.std.specs.Prelude.{◌≡◌, ℕ, zero, suc, ◌*◌, ◌<◌, ◌&&◌, List, length, nat_lt, slice_index}
use Rattle.logic.specs.Trees.{Tree, Forest, width}
use Rattle.logic.specs.Theories.{Theory, Forced}
use Rattle.logic.specs.Tellings.{Told, Telling}
use Rattle.logic.specs.Tellings.Told.{told, refused}
use Rattle.logic.specs.declared.Equation.{Equation}
use Rattle.groups.specs.Groups.{GroupNumber}
use Rattle.terms.specs.Sheets.{Row, row, Compound}
use Rattle.terms.specs.Values.{value}

abbrev mutual
  -- The tree is over the symbols of arities ar, each over as many trees as its arity.
  pub Formed : List ℕ → Tree → Type 0
  Formed ar (Tree.node s f) = (s < length ar) × (width f ≡ slice_index ar s) × AllFormed ar f

  -- Each tree of the forest is.
  pub AllFormed : List ℕ → Forest → Type 0
  AllFormed ar Forest.none = Unit {0}
  AllFormed ar (Forest.more t f) = Formed ar t × AllFormed ar f

-- The theory of trees on a sheet: it has every pair of terms, its own worlds give each name a tree over the sheet's
-- symbols, and an equation is true where both values agree.
abbrev pub trees : List ℕ → List Row → Theory
trees ar rs = record {
  has = λ e. nat_lt e.left (length rs) && nat_lt e.right (length rs);
  own = λ w. (n : ℕ) → n < length rs → row rs n ≡ Row.name → Formed ar (w.tree n);
  holds = λ w e. value rs w e.left ≡ value rs w e.right;
}

module _ (ar : List ℕ) (rs : List Row) where
  -- The number is a name of the sheet.
  abbrev pub Name : ℕ → Type 0
  Name n = (n < length rs) × (row rs n ≡ Row.name)

  module _ (es : List Equation) where
    -- Where es stand, the terms a and b are forced equal.
    abbrev pub ForcedEqual : ℕ → ℕ → Type 0
    ForcedEqual a b = Forced (trees ar rs) es (record { left = a; right = b })

    -- Where es stand, the compound term t is forced equal to n.
    pub record Bound (n t : ℕ) : Type 0 where
      pub term : t < length rs
      pub compound : Compound (row rs t)
      pub equal : ForcedEqual t n

    -- Where es stand, the name n is free: no compound term is forced equal to it.
    pub record Free (n : ℕ) : Type 0 where
      pub name : Name n
      pub unbound : (t : ℕ) → Bound n t → ⊥

    -- What is told of the number n where es stand: of a name, the lowest compound term that is forced equal to it; of
    -- a free name in the i-th group of forced-equal free names, counted from 1 by lowest member, the tower of height i
    -- times the number of terms; and refusal 17 for a number that is no name of the sheet.
    abbrev pub TreeTold : ℕ → Told → Type 0
    TreeTold n (told zero h) = Free n × ((i : ℕ) × GroupNumber Free ForcedEqual n i × (h ≡ i * length rs))
    TreeTold n (told (suc zero) t) = Name n × Bound n t × ((k : ℕ) → k < t → Bound n k → ⊥)
    TreeTold n (told (suc (suc kind)) x) = ⊥
    TreeTold n (refused number) = (Name n → ⊥) × (number ≡ 17)

  -- The place of a name is its number, and the value of a term is its value.
  abbrev pub tree_telling : Telling
  tree_telling = record { place = λ n. n; value = value rs; answer = TreeTold }
