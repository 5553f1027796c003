use Rattle.std.proofs.Common.{vec_items, arith}
use Rattle.session.proofs.Playing.{next_playing, end_playing}
use Rattle.session.proofs.plays.play.Goals as goal

pub loop-call-preserved : goal.loop-call-preserved
loop-call-preserved g c =
    let m = g.L.Logic in (
      omega (arith, c.push_reserved.ensures.len, c.loop-call.invariant.0),
      omega (arith, c.push_reserved.ensures.capacity, c.loop-call.invariant.1),
      λ l. next_playing m c.in_ok-session.session c.args.calls.now c.loop-call.call-index _ c.loop-call.session c.call-reply.new.self
          (vec_items c.loop-call.replies) (vec_items c.push_reserved.new.self) c.call-reply.result c.loop-call-test.true c.push_reserved.ensures.items (c.loop-call.invariant.2 l) c.call-reply.ensures,
    )

pub returns : goal.returns
returns g c =
    let m = g.L.Logic in
    λ good. end_playing m c.in_ok-session.session c.args.logic c.args.calls.now c.loop-call.call-index c.loop-call.session (vec_items c.loop-call.replies)
    c.loop-call-test.false (c.in_ok-session.ensures.keeps good) (c.loop-call.invariant.2 (c.in_ok-session.ensures.begins good))
