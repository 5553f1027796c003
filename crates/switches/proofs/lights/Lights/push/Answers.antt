use Rattle.std.proofs.Common.{List, set, vec_items, sym, ◌∙◌, subst, arith}
use Rattle.std.proofs.lemmas.Bool.{false≢true}
use Rattle.std.proofs.lemmas.Bool.Decides.{nat_tests}
use Rattle.logic.specs.declared.Equation.{Equation}
use Rattle.logic.specs.Theories.{Forced}
use Rattle.switches.specs.Switches.{switches, switched}
use Rattle.switches.specs.Places.{Firsts}
use Rattle.switches.specs.Forcing.{on_alone}
use Rattle.switches.proofs.Firsts.{firsts_again, firsts_new}
use Rattle.switches.proofs.lights.Lights.push.Goals as goal

pub invariant_of-self-then-not-again : goal.invariant_of-self-then-not-again
invariant_of-self-then-not-again c =
    let es = vec_items c.args.self.now.standing.vec in
    let e = c.args.e in
    let first = c.args.self.now.first in
    let unforced : Forced switches es (switched e.left) → ⊥ = λ f. false≢true (sym c.if-not-again.true ∙ c.is_on-again.ensures.1 f) in
    record {
      firsts = subst (λ (x : List Equation). Firsts x (set first e.left c.len-place.result)) (sym c.in_ok-push.ensures.1)
          (firsts_new es e first c.len-place.result c.len-place.ensures.count (grind (arith, nat_tests)) (grind (arith, nat_tests)) c.args.self.now.firsts unforced);
    }

pub invariant_of-self-else-not-again : goal.invariant_of-self-else-not-again
invariant_of-self-else-not-again c =
    let es = vec_items c.args.self.now.standing.vec in
    record {
      firsts = subst (λ (x : List Equation). Firsts x c.args.self.now.first) (sym c.in_ok-push.ensures.1)
          (firsts_again es c.args.e c.args.self.now.first c.args.self.now.firsts (on_alone es c.args.e c.requires (c.is_on-again.ensures.0 c.if-not-again.false)));
    }
