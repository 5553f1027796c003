use Rattle.std.proofs.Common.{ℕ, List, map, vec_items, sym, subst}
use Rattle.terms.specs.Sheets.{Sheet}
use Rattle.sheet.specs.Rows.{shape}
use Rattle.sheet.proofs.Sheets.{sheet_symbol}
use Rattle.sheet.proofs.Models.{table_sheet}
use Rattle.sheet.proofs.table.Table.push_symbol.Goals as goal

pub invariant_of-self-clause-sheet : goal.invariant_of-self-clause-sheet
invariant_of-self-clause-sheet c =
    let self = c.args.self.now in
    let rs = map shape (vec_items self.terms) in
    ∣ subst (λ (br : List ℕ). Sheet br rs) (sym c.push_reserved.ensures.items)
    (sheet_symbol (vec_items self.arities) rs c.args.arity c.requires.small c.requires.few (table_sheet self)) ∣₁
