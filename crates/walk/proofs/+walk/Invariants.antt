use Rattle.std.proofs.Common.{◌≡◌, ◌≤◌, drop, vec_items, vec_len, vec_capacity}
use Rattle.rules.specs.Rules.{equations}
use Rattle.rules.specs.Marks.{Ready}
use Rattle.walk.specs.Written.{written}
use Rattle.walk.specs.Walked.{Trying}
use Rattle.walk.proofs.+walk.Given as goal

abbrev pub decreases-walk : goal.decreases-walk
decreases-walk g l = l.depth

abbrev pub invariant-loop-literal : goal.invariant-loop-literal
invariant-loop-literal g l =
    let m = g.L.Logic in
    let s = l.initial.logic in
    (vec_items l.choices ≡ vec_items l.initial.choices) × (vec_len l.choices ≡ vec_len l.initial.choices) × (vec_capacity l.choices ≡ vec_capacity l.initial.choices)
    × (l.trials ≤ l.budget)
    × (m.lawful s → vec_items l.initial.choices ≡ m.stands s → Ready (m.theory s) (written l.rules) (m.stands s) l.depth
    → Trying m (written l.rules) l.budget s l.made (equations (drop l.literal-index l.rule)) l.trials l.logic)
