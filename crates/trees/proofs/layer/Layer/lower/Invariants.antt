use Rattle.std.proofs.Common.{◌≡◌}
use Rattle.unify.specs.Settling.{number_of}
use Rattle.trees.specs.Lowers.{Lowering}
use Rattle.trees.proofs.layer.Layer.lower.Given as goal

abbrev pub invariant-loop-a : goal.invariant-loop-a
invariant-loop-a l =
    Lowering (number_of l.initial.self.table.items l.initial.visits.marks.items) l.initial.self.table.items l.self.table.items l.visits.lowest.items l.a
    × (l.visits.marks ≡ l.initial.visits.marks)
    × (l.visits.order ≡ l.initial.visits.order)
