use Rattle.std.proofs.Common.{◌≡◌, ℕ, List, length, vec_items, ap, ◌∙◌}
use Rattle.logic.specs.declared.Equation.{Equation}
use Rattle.sides.specs.declared.Side.{Side}
use Rattle.sides.specs.declared.Side.TheVariants.{First, Second}
use Rattle.sides.specs.Sides.{pick, share}
use Rattle.sides.proofs.Calls.{each_side, pair_back}
use Rattle.pair.specs.Members.{by_side}
use Rattle.pair.proofs.PairLogic.back.Goals as goal

pub returns-clause-keeps : goal.returns-clause-keeps
returns-clause-keeps g c =
    let a = g.A.Logic in
    let b = g.B.Logic in
    let s = c.args.self.now in
    let z = c.back.new.self in
    let counted : (k : Side) (n : ℕ) → n ≡ length (share k c.as_slice-left.result.now) → n ≡ length (share k (vec_items c.truncate.new.self.vec)) =
    λ k n e. e ∙ ap (λ (es : List Equation). length (share k es)) c.as_slice-left.ensures in
    pair_back (by_side a.theory b.theory s.both) (by_side a.theory b.theory z) (by_side a.telling b.telling s.both) (by_side a.telling b.telling z)
    (by_side a.lawful b.lawful z) (by_side a.stands b.stands s.both) (by_side a.stands b.stands z) (by_side a.lawful b.lawful s.both)
    (vec_items s.standing.vec) _ (vec_items c.truncate.new.self.vec) c.truncate.ensures
    (pick c.count.result c.count-2.result) (each_side (λ k. pick c.count.result c.count-2.result k ≡ length (share k (vec_items c.truncate.new.self.vec))) (counted First c.count.result c.count.ensures) (counted Second c.count-2.result c.count-2.ensures)) c.back.ensures
