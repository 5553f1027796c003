use Rattle.std.proofs.Common.{◌≡◌, ◌≤◌, [], length, take, vec_items, vec_len, vec_capacity}
use Rattle.session.specs.LedBy.{LedBy, Playing}
use Rattle.session.proofs.plays.play.Given as goal

abbrev pub invariant-loop-call : goal.invariant-loop-call
invariant-loop-call g l =
    let m = g.L.Logic in
    (vec_len l.replies ≡ l.call-index) × (length l.calls ≤ vec_capacity l.replies)
    × (LedBy m l.initial.session [] []
    → Playing m l.initial.session (take l.call-index l.calls) l.session (vec_items l.replies))
