use Rattle.std.proofs.Common.{vec_items, refl, arith, rules}
use Rattle.std.specs.List.{range_with_len}
use Rattle.std.proofs.iter.Yields.{nat_range_steps}
use Rattle.std.proofs.lemmas.List.FromFn.{length-range_with_len}
use Rattle.std.proofs.lemmas.List.Sums.{count_by-le-length}
use Rattle.std.proofs.lemmas.Iterator.{YieldsList-from_range}
use Rattle.logic.proofs.Counts.{counted}
use Rattle.trees.specs.Models.{leads_names}
use Rattle.trees.proofs.layer.Layer.groups_before.Goals as goal

pub returns-clause-value : goal.returns-clause-value
returns-clause-value c =
    let n = c.args.lead in
    counted nat_range_steps (λ x. x) _ (leads_names (vec_items c.args.self.now.table) (vec_items c.args.self.now.heads)) 18446744073709551616 _ (λ a x b f called. (search rules, search rules))
    (record { start = 0; end = n }) (range_with_len 0 n) c.fold.result (YieldsList-from_range 0 n n refl (omega arith)).runs (omega (arith, length-range_with_len 0 n, c.ranges.lead.fits))
    c.fold.type_inv c.fold.ensures.ran

pub returns-clause-within : goal.returns-clause-within
returns-clause-within c =
    let n = c.args.lead in
    omega (
      arith,
      returns-clause-value c,
      count_by-le-length (leads_names (vec_items c.args.self.now.table) (vec_items c.args.self.now.heads)) (range_with_len 0 n),
      length-range_with_len 0 n,
    )
