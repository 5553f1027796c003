use Rattle.std.proofs.Common.{◌≡◌, ℕ, ◌+◌, ◌<◌, [], get_or, Option, sym, ap, ◌∙◌, subst, ◌≤◌, arith, rules, tests}
use Rattle.std.specs.Option.{IfSome, MatchOption}
use Rattle.walk.specs.Written.{literals_of, written}
use Rattle.walk.specs.Picks.{BestOf, Within}
use Rattle.walk.proofs.Bests.{read, skip, better, worse, within_more}
use Rattle.walk.proofs.pick.Goals as goal
use Rattle.walk.proofs.pick.Goals.{then-is_open+then-is_none_or, then-is_open+else-is_none_or, else-is_open}

pub loop-i-preserved : goal.loop-i-preserved
loop-i-preserved g c =
    let t = g.L.Logic.theory c.args.logic.now in
    let S = g.L.Logic.stands c.args.logic.now in
    let R = written c.args.rules.now in
    let r = c.literals-rule.result.now in
    let i = c.loop-i.i in
    let same : get_or R i [] ≡ r =
    read c.args.rules.now i c.index-rules-i.result c.loop-i-test.true ∙ ap literals_of (sym c.index-rules-i.is) ∙ sym c.literals-rule.ensures in
    let P : Option (ℕ × ℕ) → Type 0 = λ b. Within (i + 1) b × (g.L.Logic.lawful c.args.logic.now → BestOf t S R (i + 1) b) in
    elim c.if-is_open.branch [
      | then-is_open+then-is_none_or w ↦ subst P (sym w.best-is) (
        omega arith,
        λ good.
            let less : IfSome c.loop-i.best (λ p. w.width-wide.result < p.1) = search (rules, tests) in
            better t S R i r same c.loop-i.best w.width-wide.result (w.if-is_open.ensures good) w.width-wide.ensures less (c.loop-i.invariant.1 good),
      )
      | then-is_open+else-is_none_or w ↦ subst P (sym w.best-is) (
        within_more i c.loop-i.best c.loop-i.invariant.0,
        λ good.
            let more : MatchOption c.loop-i.best ⊥ (λ p. p.1 ≤ w.width-wide.result) = search (rules, tests) in
            worse t S R i r same c.loop-i.best w.width-wide.result w.width-wide.ensures more (c.loop-i.invariant.1 good),
      )
      | else-is_open w ↦ subst P (sym w.best-is) (
        within_more i c.loop-i.best c.loop-i.invariant.0,
        λ good. skip t S R i r same c.loop-i.best (w.if-is_open.ensures good) (c.loop-i.invariant.1 good),
      )
    ]
