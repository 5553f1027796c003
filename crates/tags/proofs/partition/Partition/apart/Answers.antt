use Rattle.std.proofs.Common.{◌≡◌, ℕ, get_or, ap, arith, rules}
use Rattle.tags.proofs.partition.Partition.apart.Goals as goal

pub returns : goal.returns
returns c i h = let called = (c.from_fn.ensures.items.at i 0 h).2 in search rules

pub invariant_of-result-clause-lowests : goal.invariant_of-result-clause-lowests
invariant_of-result-clause-lowests c i h =
    let called = (c.from_fn.ensures.items.at i 0 h).2 in
    let here : get_or c.from_fn.result i 0 ≡ i = search rules in
    (omega (arith, here), ap (λ (k : ℕ). get_or c.from_fn.result k 0) here)
