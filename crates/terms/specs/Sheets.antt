-- Sheets of terms: symbols by their arities, and rows, one for each term. Assumes nothing.
use Rattle.std.specs.Prelude.{◌≡◌, ℕ, ◌<◌, ◌≤◌, List, [], length, get_or, slice_index, slice_index_or}

-- A row of a sheet: a name, or a symbol's number over the term numbers of its arguments, first to last.
pub data Row : Type 0 where
  name : Row
  over : ℕ → List ℕ → Row
  deriving Discrete as Row-discrete

-- The row of a term, by its number.
abbrev pub row : List Row → ℕ → Row
row rs n = slice_index_or rs n Row.name

-- The arguments of a row; a name has none.
abbrev pub arguments : Row → List ℕ
arguments Row.name = []
arguments (Row.over s xs) = xs

-- The row is a compound term's: a symbol over its arguments.
abbrev pub Compound : Row → Type 0
Compound Row.name = ⊥
Compound (Row.over s xs) = Unit {0}

-- The arities of a sheet's symbols, by their numbers: base and step come first, 16 symbols at most, of arity 8 at most.
pub record Symbols (ar : List ℕ) : Type 0 where
  pub some : 2 ≤ length ar
  pub few : length ar ≤ 16
  pub small : (s : ℕ) → s < length ar → slice_index ar s ≤ 8
  pub base : get_or ar 0 0 ≡ 0
  pub step : get_or ar 1 0 ≡ 1

-- A compound term of the symbol s over xs can be written where n terms stand: the symbol is the sheet's, it has as many
-- arguments as its arity, and each of them is one of the n terms.
pub record Writable (ar : List ℕ) (n s : ℕ) (xs : List ℕ) : Type 0 where
  pub symbol : s < length ar
  pub arity : length xs ≡ slice_index ar s
  pub lower : (i : ℕ) → i < length xs → slice_index xs i < n

-- The symbols of arities ar and the rows rs are a sheet: each term's arguments have lower numbers than the term, and a
-- compound term is written once.
pub record Sheet (ar : List ℕ) (rs : List Row) : Type 0 where
  pub symbols : Symbols ar
  pub few : length rs ≤ 1024
  pub rows : (n s : ℕ) (xs : List ℕ) → n < length rs → row rs n ≡ Row.over s xs → Writable ar n s xs
  pub once : (m n s : ℕ) (xs : List ℕ) → m < length rs → n < length rs → row rs m ≡ Row.over s xs → row rs n ≡ Row.over s xs → m ≡ n
