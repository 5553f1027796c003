-- What a sheet in the writing has. Assumes nothing.
use Rattle.std.specs.Prelude.{◌≡◌, ℕ, ◌<◌, List, map, length, vec_items, slice_index_or}
use Rattle.terms.specs.Sheets.{Row, Sheet}
use Rattle.sheet.specs.declared.rows.Term.{Term}
use Rattle.sheet.specs.declared.rows.Term.TheVariants as V
use Rattle.sheet.specs.declared.writing.OpenSheet.{OpenSheet}
use Rattle.sheet.specs.Rows.{shape, Formed}

-- The arities of its symbols, by their numbers.
abbrev pub arities_of : OpenSheet → List ℕ
arities_of s = vec_items s.table.arities

-- Its rows, by the numbers of the terms.
abbrev pub rows_of : OpenSheet → List Row
rows_of s = map shape (vec_items s.table.terms)

-- The terms ts are those of the sheet s: they have its rows, which with its symbols are a sheet, and each is well formed.
pub record Read (s : OpenSheet) (ts : List Term) : Type 0 where
  pub rows : map shape ts ≡ rows_of s
  pub long : length ts ≡ length (rows_of s)
  pub sheet : Sheet (arities_of s) (rows_of s)
  pub formed : (n : ℕ) → n < length ts → Formed (slice_index_or ts n V.Name)
