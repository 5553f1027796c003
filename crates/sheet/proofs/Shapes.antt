-- The rows of a list of terms. Assumes nothing.
use Rattle.std.proofs.Common.{◌≡◌, ℕ, ◌<◌, List, [], ◌∷◌, ◌++◌, map, length, get_or, sym, ap, ◌∙◌}
use Rattle.std.proofs.lemmas.List.{get_or-map, get_or_read, map_push}
use Rattle.terms.specs.Sheets.{Row, row}
use Rattle.sheet.specs.Rows.{shape}
use Rattle.sheet.specs.declared.rows.Term.{Term}
use Rattle.sheet.specs.declared.rows.Term.TheVariants as V

-- with one term more
pub rows_push : (ts us : List Term) (t : Term) → us ≡ ts ++ (t ∷ []) → map shape us ≡ map shape ts ++ (shape t ∷ [])
rows_push ts us t pushed = ap (map shape) pushed ∙ map_push shape ts t

-- the row of a term that was read and turned out to be u
pub row_read : (ts : List Term) (n : ℕ) (t u : Term) → n < length ts → t ≡ get_or ts n t → t ≡ u → row (map shape ts) n ≡ shape u
row_read ts n t u h read is = get_or-map shape ts n V.Name Row.name h ∙ ap shape (sym (get_or_read ts n t h read V.Name) ∙ is)
