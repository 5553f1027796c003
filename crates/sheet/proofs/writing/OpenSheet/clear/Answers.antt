use Rattle.std.proofs.Common.{vec_items}
use Rattle.sheet.proofs.Models.{indexed_blank}
use Rattle.sheet.proofs.writing.OpenSheet.clear.Goals as goal

pub invariant_of-self : goal.invariant_of-self
invariant_of-self c =
    let table = c.clear.new.self in
    let index = c.clear-2.new.self in
    record { indexed = ∣ indexed_blank (vec_items table.terms) (vec_items index.latest) (vec_items index.earlier) c.clear.ensures.terms c.clear-2.ensures ∣₁ }
