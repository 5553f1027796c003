-- The rows of terms as they are read. Assumes nothing.
use Rattle.std.proofs.Common.{◌≡◌, ℕ, ◌<◌, List, length, get_or, take, sym, ap, ◌∙◌, arith, length-take, get_or-take}
use Rattle.std.proofs.lemmas.List.{get_or-map}
use Rattle.terms.specs.Sheets.{Row, row, arguments}
use Rattle.sheet.specs.Rows.{shape}
use Rattle.sheet.specs.declared.rows.Term.{Term}
use Rattle.sheet.specs.declared.rows.Compound.{Compound}
use Rattle.trees.specs.Terms.{rows}

-- a term that is read has the row of its number
pub row_read : (ts : List Term) (a : ℕ) (d t : Term) → a < length ts → get_or ts a d ≡ t → row (rows ts) a ≡ shape t
row_read ts a d t h read = get_or-map shape ts a d Row.name h ∙ ap shape read

-- a compound term's places have its row's arguments
pub place_read : (r : Row) (c : Compound) (i : ℕ) → r ≡ Row.over c.symbol (take c.arity c.arguments) → i < length (arguments r)
    → get_or c.arguments i 0 ≡ get_or (arguments r) i 0
place_read r c i e h =
    let f : arguments r ≡ take c.arity c.arguments = ap arguments e in
    let l : i < c.arity = omega (arith, ap length f, length-take c.arity c.arguments) in
    sym (get_or-take c.arity c.arguments i 0 l) ∙ ap (λ (xs : List ℕ). get_or xs i 0) (sym f)

-- and as many of them count as the row has arguments
pub arity_read : (r : Row) (c : Compound) → r ≡ Row.over c.symbol (take c.arity c.arguments) → length (arguments r) ≡ c.arity
arity_read r c e = omega (arith, ap (λ (q : Row). length (arguments q)) e, length-take c.arity c.arguments, c.small, c.long)
