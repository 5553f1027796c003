use Rattle.std.proofs.Common.{◌≡◌, ◌+◌, List, length, take, vec_items, sym, ap, subst₂, arith}
use Rattle.logic.specs.declared.Equation.{Equation}
use Rattle.tags.specs.Layers.{Layers}
use Rattle.tags.specs.Histories.{history_layers}
use Rattle.tags.specs.declared.partition.Partition.{Partition}
use Rattle.tags.proofs.Layers.{layers_back}
use Rattle.tags.proofs.history.History.truncate.Goals as goal

pub invariant_of-self-clause-layers : goal.invariant_of-self-clause-layers
invariant_of-self-clause-layers c =
    let self = c.args.self.now in
    let es = vec_items self.standing.vec in
    let ps = vec_items self.partitions in
    let kept : c.len.result + 1 ≡ length (take c.args.n es) + 1
    = omega (arith, c.len.ensures, c.truncate.new.self.vec.ok.0, ap length c.truncate.ensures) in
    ∣ subst₂ (λ (fs : List Equation) (qs : List Partition). Layers fs qs) (sym c.truncate.ensures) (sym c.truncate-2.ensures.items)
    (layers_back es ps c.args.n (c.len.result + 1) kept (history_layers self)) ∣₁
