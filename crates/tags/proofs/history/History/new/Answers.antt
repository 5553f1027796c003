use Rattle.std.proofs.Common.{List, [], ◌∷◌, ◌++◌, vec_items, ap, ◌∙◌}
use Rattle.tags.specs.declared.partition.Partition.{Partition}
use Rattle.tags.proofs.Partitions.{exact_apart}
use Rattle.tags.proofs.Layers.{layers_first}
use Rattle.tags.proofs.history.History.new.Goals as goal

pub invariant_of-result-clause-layers : goal.invariant_of-result-clause-layers
invariant_of-result-clause-layers c =
    let p = c.apart.result in
    ∣ layers_first (vec_items c.in_ok-standing.standing.vec) (vec_items c.push_reserved.new.self) p c.in_ok-standing.ensures
    (c.push_reserved.ensures.items ∙ ap (λ (ps : List Partition). ps ++ (p ∷ [])) c.in_ok-partitions.ensures.items) (exact_apart p.lowest c.apart.ensures) ∣₁
