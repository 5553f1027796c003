use Rattle.std.proofs.Common.{refl}
use Rattle.logic.specs.Answers.{outcome_of}
use Rattle.logic.proofs.Sames.{kept_refl}
use Rattle.sides.specs.declared.Side.TheVariants.{First, Second}
use Rattle.sides.specs.Sides.{pick}
use Rattle.sides.proofs.Calls.{asked_of}
use Rattle.pair.proofs.both.Both.assume.Goals as goal

pub returns-in-First : goal.returns-in-First
returns-in-First g c =
    let a = g.A.Logic in
    let b = g.B.Logic in
    let x = c.args.self.now.first in
    let y = c.args.self.now.second in
    let z = c.assume.new.self in
    λ l. asked_of (pick (a.theory x) (b.theory y)) (pick (a.theory z) (b.theory y)) (pick (a.telling x) (b.telling y)) (pick (a.telling z) (b.telling y))
    (pick (a.lawful z) (b.lawful y)) (pick (a.stands x) (b.stands y)) (pick (a.stands z) (b.stands y)) c.args.e (outcome_of c.assume.result)
    First c.args.side c.in-First.is (c.assume.ensures.keeps (l First)) (kept_refl (b.theory y) (b.telling y) (b.lawful y) (l Second))
    (c.assume.ensures.assumes (l First)) refl

pub returns-in-Second : goal.returns-in-Second
returns-in-Second g c =
    let a = g.A.Logic in
    let b = g.B.Logic in
    let x = c.args.self.now.first in
    let y = c.args.self.now.second in
    let z = c.assume-in-Second.new.self in
    λ l. asked_of (pick (a.theory x) (b.theory y)) (pick (a.theory x) (b.theory z)) (pick (a.telling x) (b.telling y)) (pick (a.telling x) (b.telling z))
    (pick (a.lawful x) (b.lawful z)) (pick (a.stands x) (b.stands y)) (pick (a.stands x) (b.stands z)) c.args.e (outcome_of c.assume-in-Second.result)
    Second c.args.side c.in-Second.is (c.assume-in-Second.ensures.keeps (l Second)) (kept_refl (a.theory x) (a.telling x) (a.lawful x) (l First))
    (c.assume-in-Second.ensures.assumes (l Second)) refl
