use Rattle.std.proofs.Common.{vec_items}
use Rattle.sheet.proofs.Models.{indexed_blank}
use Rattle.sheet.proofs.writing.OpenSheet.new.Goals as goal

pub invariant_of-result : goal.invariant_of-result
invariant_of-result c =
    let table = c.in_ok-table.table in
    let index = c.in_ok-index.index in
    record { indexed = ∣ indexed_blank (vec_items table.terms) (vec_items index.latest) (vec_items index.earlier) c.in_ok-table.ensures.1 c.in_ok-index.ensures ∣₁ }
