use Rattle.std.proofs.Common.{List, map, vec_items, sym, subst}
use Rattle.terms.specs.Sheets.{Row, Sheet}
use Rattle.sheet.specs.Rows.{shape}
use Rattle.sheet.proofs.Shapes.{rows_push}
use Rattle.sheet.proofs.Sheets.{sheet_row}
use Rattle.sheet.proofs.Models.{table_sheet}
use Rattle.sheet.proofs.table.Table.push.Goals as goal

pub invariant_of-self-clause-sheet : goal.invariant_of-self-clause-sheet
invariant_of-self-clause-sheet c =
    let self = c.args.self.now in
    let ar = vec_items self.arities in
    let ts = vec_items self.terms in
    ∣ subst (λ (qs : List Row). Sheet ar qs) (sym (rows_push ts (vec_items c.push_reserved.new.self) c.args.term c.push_reserved.ensures.items))
    (sheet_row ar (map shape ts) (shape c.args.term) c.requires.fresh c.requires.few (table_sheet self)) ∣₁
