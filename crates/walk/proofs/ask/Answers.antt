use Rattle.std.proofs.Common.{List, vec_items, sym, ◌∙◌, subst, arith}
use lib.ListN.{length-map}
use Rattle.logic.specs.declared.Equation.{Equation}
use Rattle.rules.specs.Marks.{Ready}
use Rattle.rules.proofs.Readiness.{ready_start}
use Rattle.walk.specs.Written.{literals_of, written}
use Rattle.walk.proofs.Asks.{asked_rest, asked_spent}
use Rattle.walk.proofs.ask.Goals as goal

pub returns-in-Spent-clause-asks : goal.returns-in-Spent-clause-asks
returns-in-Spent-clause-asks g c =
    let m = g.L.Logic in
    let s = c.args.logic.now in
    let z = c.walk-word.new.logic in
    let j = c.back.new.self in
    let R = written c.args.rules.now in
    λ good bare had few fits.
    let long = length-map c.args.rules.now literals_of in
    let start = ready_start (m.theory s) R c.min-depth.result had (omega (arith, long)) (omega (arith, long, c.min-depth.ensures, c.capacity.ensures, c.clear.ensures.capacity)) in
    let P : List Equation → Type 0 = λ S. Ready (m.theory s) R S c.min-depth.result in
    let w = c.walk-word.ensures.walks good (c.clear.ensures.items ∙ sym bare) (subst P (sym bare) start) in
    asked_spent m R c.args.budget s bare c.walk-word.result.1 z (vec_items c.walk-word.new.choices) c.walk-word.result.0 c.in-Spent.is w
    j (vec_items c.clear-in-Spent.new.self) (c.back.ensures.keeps w.kept.lawful) (c.back.ensures.oldest w.kept.lawful) c.clear-in-Spent.ensures.items

pub returns-in_default-clause-asks : goal.returns-in_default-clause-asks
returns-in_default-clause-asks g c =
    let m = g.L.Logic in
    let s = c.args.logic.now in
    let z = c.walk-word.new.logic in
    let R = written c.args.rules.now in
    λ good bare had few fits.
    let long = length-map c.args.rules.now literals_of in
    let start = ready_start (m.theory s) R c.min-depth.result had (omega (arith, long)) (omega (arith, long, c.min-depth.ensures, c.capacity.ensures, c.clear.ensures.capacity)) in
    let P : List Equation → Type 0 = λ S. Ready (m.theory s) R S c.min-depth.result in
    let w = c.walk-word.ensures.walks good (c.clear.ensures.items ∙ sym bare) (subst P (sym bare) start) in
    asked_rest m R c.args.budget s bare c.walk-word.result.1 z (vec_items c.walk-word.new.choices) c.walk-word.result.0 c.in_default.not-Spent
    (vec_items c.clear.new.self) c.clear.ensures.items c.walk-word.ensures.bare w
