-- The value of each term of a sheet in a world. Assumes nothing.
use Rattle.std.specs.Prelude.{◌≡◌, ℕ, zero, suc, ◌<◌, List, [], ◌∷◌, map, length}
use Rattle.logic.specs.Trees.{Tree, Forest, World}
use Rattle.terms.specs.Sheets.{Row, row}

-- The trees of a list, side by side.
abbrev pub forest : List Tree → Forest
forest [] = Forest.none
forest (t ∷ ts) = Forest.more t (forest ts)

-- The trees v fit the rows: each compound term has its symbol over the trees of its arguments.
abbrev pub Solves : List Row → (ℕ → Tree) → Type 0
Solves rs v = (n s : ℕ) (xs : List ℕ) → n < length rs → row rs n ≡ Row.over s xs → v n ≡ Tree.node s (forest (map v xs))

-- The trees v are the values of the terms in the world w: a name's is the world's tree for its number, and a compound
-- term's is its symbol over its arguments' values.
pub record Values (rs : List Row) (w : World) (v : ℕ → Tree) : Type 0 where
  pub name : (n : ℕ) → n < length rs → row rs n ≡ Row.name → v n ≡ w.tree n
  pub compound : Solves rs v

-- The tree of a row, where its arguments have the trees v and t is the tree of a name.
abbrev pub grown : (ℕ → Tree) → Tree → Row → Tree
grown v t Row.name = t
grown v t (Row.over s xs) = Tree.node s (forest (map v xs))

-- The value of a term that nests no deeper than d.
abbrev pub deep : ℕ → List Row → World → ℕ → Tree
deep zero rs w n = w.tree n
deep (suc d) rs w n = grown (deep d rs w) (w.tree n) (row rs n)

-- The value of the term n in the world w. These are the one assignment that `Values` describes: arguments have lower
-- numbers, so a term nests no deeper than its number.
abbrev pub value : List Row → World → ℕ → Tree
value rs w n = deep (suc n) rs w n
