-- The rows that terms stand for, and which rows a sheet can take. Assumes nothing.
use Rattle.std.specs.Prelude.{◌≡◌, ℕ, ◌<◌, ◌≤◌, List, length, take, Some, None, Option, ◌≢◌}
use Rattle.terms.specs.Sheets.{Row, row, Writable}
use Rattle.sheet.specs.declared.rows.Term.{Term}
use Rattle.sheet.specs.declared.rows.Term.TheVariants as V

-- The row that a term stands for.
abbrev pub shape : Term → Row
shape V.Name = Row.name
shape (V.Over c) = Row.over c.symbol (take c.arity c.arguments)

-- A compound term has 8 places for arguments at hand, and its arity is no more.
abbrev pub Formed : Term → Type 0
Formed V.Name = Unit {0}
Formed (V.Over c) = (c.arity ≤ 8) × (length c.arguments ≡ 8)

-- The row is that of the term n.
abbrev pub Stands : List Row → Row → ℕ → Type 0
Stands rs r n = (n < length rs) × (row rs n ≡ r)

-- The row is that of no term.
abbrev pub Absent : List Row → Row → Type 0
Absent rs r = (n : ℕ) → n < length rs → row rs n ≢ r

-- A search for the row finds n, or that there is none.
abbrev pub Finds : List Row → Row → Option ℕ → Type 0
Finds rs r (Some n) = Stands rs r n
Finds rs r None = Absent rs r

-- The row can be the next one of a sheet: a name always, and a compound term where it can be written and was not yet.
abbrev pub Fresh : List ℕ → List Row → Row → Type 0
Fresh ar rs Row.name = Unit {0}
Fresh ar rs (Row.over s xs) = Writable ar (length rs) s xs × Absent rs (Row.over s xs)
