use Rattle.std.proofs.Common.{◌<◌, length, Ok, Err, vec_items, refl, ap, arith}
use Rattle.std.proofs.lemmas.Bool.Decides.{nat_tests}
use Rattle.logic.specs.Refusals.{refusal_number}
use Rattle.logic.specs.Answers.{outcome_of}
use Rattle.sides.proofs.Calls.{each_side, pair_refuses, pair_clashes, pair_takes}
use Rattle.pair.specs.Members.{by_side}
use Rattle.pair.proofs.PairLogic.assume.Goals as goal

-- the side does not refuse what it has, where there is room
pub returns-in_err-assumed-clause-assumes : goal.returns-in_err-assumed-clause-assumes
returns-in_err-assumed-clause-assumes g c =
    let a = g.A.Logic in
    let b = g.B.Logic in
    let s = c.args.self.now in
    let z = c.assume.new.self in
    let less : length (vec_items s.standing.vec) < 256 = grind (arith, nat_tests, s.standing.few, s.standing.vec.ok.0) in
    let refusal = c.in_err-assumed.field-0.0 in
    let answer = pair_refuses (by_side a.theory b.theory s.both) (by_side a.lawful b.lawful s.both) (by_side a.stands b.stands s.both) (vec_items s.standing.vec)
    (each_side _ (g.met.A.Logic.freest s.both.first) (g.met.B.Logic.freest s.both.second)) c.args.e c.in-Some.side c.in-Some.halved c.in-Some.ensures
    (by_side a.theory b.theory z) (by_side a.telling b.telling s.both) (by_side a.telling b.telling z) (by_side a.lawful b.lawful z) (by_side a.stands b.stands z)
    c.if-not-has.ensures less (outcome_of (Err refusal)) c.in_err-assumed.ensures (refusal_number refusal) refl (outcome_of c.from_residual.result) in
    λ l. (answer l).1

pub returns-in-Taken : goal.returns-in-Taken
returns-in-Taken g c =
    let a = g.A.Logic in
    let b = g.B.Logic in
    let s = c.args.self.now in
    let z = c.assume.new.self in
    let less : length (vec_items s.standing.vec) < 256 = grind (arith, nat_tests, s.standing.few, s.standing.vec.ok.0) in
    let answer = pair_takes (by_side a.theory b.theory s.both) (by_side a.lawful b.lawful s.both) (by_side a.stands b.stands s.both) (vec_items s.standing.vec)
    (each_side _ (g.met.A.Logic.freest s.both.first) (g.met.B.Logic.freest s.both.second)) c.args.e c.in-Some.side c.in-Some.halved c.in-Some.ensures
    (by_side a.theory b.theory z) (by_side a.telling b.telling s.both) (by_side a.telling b.telling z) (by_side a.lawful b.lawful z) (by_side a.stands b.stands z)
    c.if-not-has.ensures less (outcome_of (Ok c.in_ok-assumed.assumed)) c.in_ok-assumed.ensures
    (ap (λ x. outcome_of (Ok x)) {x = c.in_ok-assumed.assumed} c.in-Taken.is) (vec_items c.note.new.standing.vec) c.note.ensures in
    record { keeps = λ l. (answer l).0; assumes = λ l. (answer l).1 }

pub returns-in_default-assumed-clause-assumes : goal.returns-in_default-assumed-clause-assumes
returns-in_default-assumed-clause-assumes g c =
    let a = g.A.Logic in
    let b = g.B.Logic in
    let s = c.args.self.now in
    let z = c.assume.new.self in
    let less : length (vec_items s.standing.vec) < 256 = grind (arith, nat_tests, s.standing.few, s.standing.vec.ok.0) in
    let answer = pair_clashes (by_side a.theory b.theory s.both) (by_side a.lawful b.lawful s.both) (by_side a.stands b.stands s.both) (vec_items s.standing.vec)
    (each_side _ (g.met.A.Logic.freest s.both.first) (g.met.B.Logic.freest s.both.second)) c.args.e c.in-Some.side c.in-Some.halved c.in-Some.ensures
    (by_side a.theory b.theory z) (by_side a.telling b.telling s.both) (by_side a.telling b.telling z) (by_side a.lawful b.lawful z) (by_side a.stands b.stands z)
    c.if-not-has.ensures less (outcome_of (Ok c.in_ok-assumed.assumed)) c.in_ok-assumed.ensures
    (ap (λ x. outcome_of (Ok x)) {x = c.in_ok-assumed.assumed} c.in_default-assumed.is) in
    λ l. (answer l).1
