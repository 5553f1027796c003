use Rattle.std.proofs.Common.{List, map, vec_items, sym, ap, subst}
use Rattle.terms.specs.Sheets.{Row, Sheet}
use Rattle.sheet.specs.Rows.{shape}
use Rattle.sheet.proofs.Sheets.{sheet_oldest}
use Rattle.sheet.proofs.Models.{table_sheet}
use Rattle.sheet.proofs.table.Table.clear.Goals as goal

pub invariant_of-self-clause-sheet : goal.invariant_of-self-clause-sheet
invariant_of-self-clause-sheet c =
    let ar = vec_items c.args.self.now.arities in
    let rs = map shape (vec_items c.args.self.now.terms) in
    ∣ subst (λ (ys : List Row). Sheet ar ys) (sym (ap (map shape) c.clear.ensures.items)) (sheet_oldest ar rs 0 (table_sheet c.args.self.now)) ∣₁
