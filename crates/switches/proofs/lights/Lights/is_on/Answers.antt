use Rattle.std.proofs.Common.{◌≡◌, ◌<◌, List, length, get_or, vec_items, sym, ap, subst, arith, eq-eqb, eqb-true}
use Rattle.std.proofs.lemmas.Bool.Decides.{nat_tests}
use Rattle.logic.specs.declared.Equation.{Equation}
use Rattle.switches.specs.Switches.{switched}
use Rattle.switches.specs.Places.{switch_at}
use Rattle.switches.specs.Forcing.{stands_forced, forced_first}
use Rattle.switches.proofs.lights.Lights.is_on.Goals as goal

pub returns-then-place-standing : goal.returns-then-place-standing
returns-then-place-standing c =
    let es = vec_items c.args.self.now.standing.vec in
    let s = c.args.switch in
    let p = get_or c.args.self.now.first s 0 in
    let within : p < length es = omega (arith, ap length c.as_slice-standing.ensures) in
    let seen_at : List Equation → Type 0 = λ xs. switch_at xs p ≡ s in (
      λ seen. stands_forced es s p c.requires within (subst seen_at c.as_slice-standing.ensures (eqb-true _ s seen)),
      λ f. eq-eqb _ s (subst seen_at (sym c.as_slice-standing.ensures) (forced_first es c.args.self.now.first (switched s) c.args.self.now.firsts f).1),
    )

pub returns-else-place-standing : goal.returns-else-place-standing
returns-else-place-standing c =
    let es = vec_items c.args.self.now.standing.vec in
    let p = get_or c.args.self.now.first c.args.switch 0 in (
      λ seen. absurd (grind (arith, nat_tests)),
      λ f. let within : p < length es = (forced_first es c.args.self.now.first (switched c.args.switch) c.args.self.now.firsts f).0 in
          absurd (omega (arith, ap length c.as_slice-standing.ensures)),
    )
