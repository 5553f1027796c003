use Rattle.std.proofs.Common.{sym, ◌∙◌, arith, rules, tests}
use Rattle.std.proofs.iter.Yields.{fronts}
use Rattle.std.proofs.lemmas.List.Sums.{length-filter}
use Rattle.std.proofs.lemmas.Iterator.{YieldsList-from_slice}
use Rattle.logic.specs.declared.Equation.{Equation}
use Rattle.logic.proofs.Counts.{counted}
use Rattle.sides.specs.Sides.{part_of, belongs}
use Rattle.sides.proofs.Shares.{share_filtered}
use Rattle.pair.proofs.numbers.count.Goals as goal

pub returns : goal.returns
returns c =
    let es = c.args.es.now in
    let test = λ (e : Equation). belongs c.args.side (part_of e) in
    counted fronts (λ y. y.now) _ test 18446744073709551616 _ (λ a x b f called. (search (rules, tests), search rules)) c.iter.result es c.fold.result
    (YieldsList-from_slice es cc).runs (omega (arith, c.iter.ensures.bound)) c.fold.type_inv c.fold.ensures.ran
    ∙ sym (length-filter test es) ∙ share_filtered c.args.side es
