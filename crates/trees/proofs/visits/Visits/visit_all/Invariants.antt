use Rattle.std.proofs.Common.{◌≡◌}
use Rattle.sheet.specs.Models.{arities_of, rows_of}
use Rattle.trees.specs.Places.{Reached}
use Rattle.trees.proofs.visits.Visits.visit_all.Given as goal

abbrev pub invariant-loop-class : goal.invariant-loop-class
invariant-loop-class l =
    Reached l.terms.list.now l.layer.table.items l.layer.heads.items l.self.marks.items (arities_of l.self.order) (rows_of l.self.order) l.class
    × (arities_of l.self.order ≡ arities_of l.initial.self.order)
    × (l.self.lowest ≡ l.initial.self.lowest)
