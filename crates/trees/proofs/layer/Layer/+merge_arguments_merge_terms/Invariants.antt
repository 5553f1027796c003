use Rattle.std.proofs.Common.{◌+◌, ◌-◌, ◌*◌}
use Rattle.unify.specs.Parents.{roots}
use Rattle.trees.proofs.layer.Layer.+merge_arguments_merge_terms.Given as goal

abbrev pub decreases-merge_arguments : goal.decreases-merge_arguments
decreases-merge_arguments l = roots l.self.now.table.items * 10 + (9 - l.place)

abbrev pub decreases-merge_terms : goal.decreases-merge_terms
decreases-merge_terms l = roots l.self.now.table.items * 10
