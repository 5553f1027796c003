-- The terms of a closed sheet, as the code reads them. Assumes nothing.
use Rattle.std.specs.Prelude.{◌≡◌, ℕ, ◌<◌, ◌≤◌, List, map, length, take, Some, None, Option, slice_index}
use Rattle.std.specs.List.{range_with_len}
use Rattle.terms.specs.Sheets.{Row, row, arguments}
use Rattle.sheet.specs.Rows.{shape}
use Rattle.sheet.specs.declared.rows.Term.{Term}
use Rattle.sheet.specs.declared.rows.Compound.{Compound}

-- The rows that the terms stand for.
abbrev pub rows : List Term → List Row
rows ts = map shape ts

-- The arguments of a term, first to last.
abbrev pub arguments_of : List Term → ℕ → List ℕ
arguments_of ts a = arguments (row (rows ts) a)

-- The head of a term that is alone in its class, where n is its number and none that of no term.
abbrev pub head_alone : ℕ → ℕ → Row → ℕ
head_alone n none Row.name = none
head_alone n none (Row.over s xs) = n

-- The table of n terms that are each alone in a class.
abbrev pub alone : ℕ → List ℕ
alone n = map (λ a. a) (range_with_len 0 n)

-- And the heads of those classes, where the terms have the rows rs.
abbrev pub heads_alone : ℕ → List Row → List ℕ
heads_alone n rs = map (λ a. head_alone a n (row rs a)) (range_with_len 0 n)

-- The row is a compound term's where one is read, and then it is that one's; and a name's where none is.
abbrev pub Reads : Row → Option Compound → Type 0
Reads r None = r ≡ Row.name
Reads r (Some c) = r ≡ Row.over c.symbol (take c.arity c.arguments)

-- There are at most 1,024 terms, and a term's arguments have lower numbers than the term.
pub record Orderly (ts : List Term) : Type 0 where
  pub few : length ts ≤ 1024
  pub many : length (rows ts) ≡ length ts
  pub lower : (a i : ℕ) → a < length ts → i < length (arguments_of ts a) → slice_index (arguments_of ts a) i < a
