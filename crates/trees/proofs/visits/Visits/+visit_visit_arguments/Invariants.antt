use Rattle.std.proofs.Common.{◌+◌, ◌-◌, ◌*◌}
use Rattle.unify.specs.Visits.{unseen}
use Rattle.trees.proofs.visits.Visits.+visit_visit_arguments.Given as goal

abbrev pub decreases-visit_arguments : goal.decreases-visit_arguments
decreases-visit_arguments l = unseen l.self.now.marks.items * 10 + (9 - l.place)

abbrev pub decreases-visit : goal.decreases-visit
decreases-visit l = unseen l.self.now.marks.items * 10
