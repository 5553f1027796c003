-- What holds of every sheet in the writing, and of every term. Assumes nothing.
use Rattle.std.proofs.Common.{◌≡◌, ℕ, List, [], Option, map, vec_items, sym, ap, subst}
use Rattle.terms.specs.Sheets.{Sheet}
use Rattle.sheet.specs.declared.rows.Term.{Term}
use Rattle.sheet.specs.declared.rows.Term.TheVariants as V
use Rattle.sheet.specs.declared.table.Table.{Table}
use Rattle.sheet.specs.declared.writing.OpenSheet.{OpenSheet}
use Rattle.sheet.specs.Rows.{shape, Formed}
use Rattle.sheet.specs.Models.{arities_of, rows_of}
use Rattle.sheet.specs.Indexes.{bucket, Indexed}
use Rattle.sheet.proofs.Sheets.{sheet_plain}
use Rattle.sheet.proofs.Indexes.{indexed_plain}

-- the symbols and rows of a table are a sheet
pub table_sheet : (t : Table) → Sheet (vec_items t.arities) (map shape (vec_items t.terms))
table_sheet t = sheet_plain (vec_items t.arities) (map shape (vec_items t.terms)) t.sheet

-- and so those of a sheet in the writing
pub sheet_of : (s : OpenSheet) → Sheet (arities_of s) (rows_of s)
sheet_of s = table_sheet s.table

-- its rows are indexed by their buckets
pub indexed_rows : (s : OpenSheet) → Indexed (map bucket (rows_of s)) (vec_items s.index.latest) (vec_items s.index.earlier)
indexed_rows s = indexed_plain (map bucket (rows_of s)) (vec_items s.index.latest) (vec_items s.index.earlier) s.indexed

-- the index of no number is that of no term
pub indexed_blank : (ts : List Term) (latest earlier : List (Option ℕ)) → ts ≡ [] → Indexed [] latest earlier → Indexed (map bucket (map shape ts)) latest earlier
indexed_blank ts latest earlier none x =
    subst (λ (bs : List (Option ℕ)). Indexed bs latest earlier) (sym (ap (λ (us : List Term). map bucket (map shape us)) none)) x

-- a term is well formed
pub formed : (t : Term) → Formed t
formed V.Name = tt
formed (V.Over c) = (c.small, c.long)
