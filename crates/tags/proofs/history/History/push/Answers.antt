use Rattle.std.proofs.Common.{◌≡◌, ◌+◌, List, length, vec_items, sym, ap, subst, subst₂, arith}
use Rattle.logic.specs.declared.Equation.{Equation}
use Rattle.tags.specs.Layers.{Layers}
use Rattle.tags.specs.Tells.{between}
use Rattle.tags.specs.Histories.{history_layers}
use Rattle.tags.specs.declared.partition.Partition.{Partition}
use Rattle.tags.proofs.Layers.{layers_taken}
use Rattle.tags.proofs.history.History.push.Goals as goal

pub invariant_of-self : goal.invariant_of-self
invariant_of-self c =
    let self = c.args.self.now in
    let kept : vec_items c.push.new.self.vec ≡ vec_items self.standing.vec = c.in_err-push.ensures.1 in
    record {
      space = self.space;
      one_more = omega (arith, self.one_more, ap length kept, self.standing.vec.ok.0, c.push.new.self.vec.ok.0);
      layers = ∣ subst (λ (fs : List Equation). Layers fs (vec_items self.partitions)) (sym kept) (history_layers self) ∣₁;
    }

pub invariant_of-self-2-clause-layers : goal.invariant_of-self-2-clause-layers
invariant_of-self-2-clause-layers c =
    let self = c.args.self.now in
    let es = vec_items self.standing.vec in
    let ps = vec_items self.partitions in
    let s = between c.args.e c.requires in
    let long : length ps ≡ length es + 1 = omega (arith, self.one_more, self.standing.vec.ok.0, self.partitions.ok.0) in
    subst₂ (λ (fs : List Equation) (qs : List Partition). ∥ Layers fs qs ∥₁) (sym c.in_ok-push.ensures.1) (sym c.push_reserved.ensures.items)
    (layers_taken es ps c.args.e c.groups.result.now.lowest c.joined-joined.result long c.groups.result.now.long c.groups.ensures.newest
    c.joined-joined.ensures s.0 s.1 self.layers)
