use Rattle.std.proofs.Common.{◌≡◌, ℕ, ◌<◌, length, get_or}
use Rattle.unify.specs.Settling.{number_of}
use Rattle.trees.proofs.visits.Visits.numbers.Given as goal

abbrev pub invariant-loop-i : goal.invariant-loop-i
invariant-loop-i l =
    (length l.numbers ≡ 8)
    × ((k : ℕ) → k < l.i → get_or l.numbers k 0 ≡ number_of l.layer.table.items l.self.marks.items (get_or l.compound.arguments k 0))
