use Rattle.std.proofs.Common.{◌≡◌, ℕ, List, ◌++◌, map, vec_items, sym, ap, ◌∙◌, subst}
use Rattle.terms.specs.Sheets.{Symbols}
use Rattle.sheet.specs.Rows.{shape}
use Rattle.sheet.proofs.Sheets.{sheet_blank}
use Rattle.sheet.proofs.table.Table.with_symbols.Goals as goal

pub invariant_of-result-clause-sheet : goal.invariant_of-result-clause-sheet
invariant_of-result-clause-sheet c =
    let ar = vec_items c.extend_from_slice.new.self in
    let copied : ar ≡ c.args.symbols.now
    = c.in_ok-extend_from_slice.ensures.items ∙ ap (λ (xs : List ℕ). xs ++ c.args.symbols.now) c.in_ok-arities.ensures.items in
    ∣ sheet_blank ar (map shape (vec_items c.in_ok-terms.terms)) (ap (map shape) c.in_ok-terms.ensures.items) (subst (λ (xs : List ℕ). Symbols xs) (sym copied) c.requires) ∣₁
