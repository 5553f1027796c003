use Rattle.std.proofs.Common.{◌≡◌, ℕ, ◌<◌, ◌≤◌, cond, eqb, get_or}
use Rattle.tags.proofs.partition.Partition.joined.Given as goal

abbrev pub invariant-loop-x : goal.invariant-loop-x
invariant-loop-x l =
    ((k : ℕ) → k < l.x-index → get_or l.x-items k 0 ≡ cond (eqb (get_or l.self.lowest k 0) l.high) l.low (get_or l.self.lowest k 0))
    × ((k : ℕ) → l.x-index ≤ k → get_or l.x-items k 0 ≡ get_or l.self.lowest k 0)
