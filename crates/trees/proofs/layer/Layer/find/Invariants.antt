use Rattle.std.proofs.Common.{◌≡◌, length}
use Rattle.trees.specs.Merges.{Climbs}
use Rattle.trees.proofs.layer.Layer.find.Given as goal

abbrev pub invariant-loop-at : goal.invariant-loop-at
invariant-loop-at l = Climbs (length l.initial.self.table.items) l.initial.self.table.items l.self.table.items l.term l.at × (l.self.heads.items ≡ l.initial.self.heads.items)

abbrev pub decreases-loop-at : goal.decreases-loop-at
decreases-loop-at l = l.at
