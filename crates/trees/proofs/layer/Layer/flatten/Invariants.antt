use Rattle.std.proofs.Common.{◌≡◌, length}
use Rattle.trees.specs.Flats.{Flattening}
use Rattle.trees.proofs.layer.Layer.flatten.Given as goal

abbrev pub invariant-loop-a : goal.invariant-loop-a
invariant-loop-a l = Flattening (length l.initial.self.table.items) l.initial.self.table.items l.self.table.items l.a × (l.self.heads.items ≡ l.initial.self.heads.items)
