use Rattle.std.proofs.Common.{ℕ, List, [], length, vec_items, sym, ap, ◌∙◌, subst₂, arith, rules, tests}
use mathlib.Core.Logic.{∥∥₁_map}
use Rattle.std.proofs.lemmas.List.FromFn.{length-map-range_with_len}
use Rattle.classes.specs.Classes.{Settled}
use Rattle.sheet.specs.Models.{arities_of, rows_of}
use Rattle.trees.specs.Models.{Founded}
use Rattle.trees.proofs.Layering.{alone_settled, layers_first}
use Rattle.trees.proofs.history.History.new.Goals as goal

pub invariant_of-result : goal.invariant_of-result
invariant_of-result c =
    let sheet = c.args.sheet in
    let rs = rows_of sheet in
    let layers = c.in_ok-layers.layers in
    let founded : Founded rs (vec_items layers) = search (rules, tests) in
    record {
      full = omega (arith, founded.full, layers.ok.0);
      wide = ∣ (λ k h. ap length (founded.tables k h) ∙ length-map-range_with_len (λ (a : ℕ). a) 0 (length rs)) ∣₁;
      ready = ∣ c.in_ok-visits.ensures ∣₁;
      settled = ∥∥₁_map sheet.table.sheet
          (λ s. layers_first rs (vec_items c.in_ok-standing.standing.vec) (vec_items layers) c.in_ok-standing.ensures
          (subst₂ (λ (xs ys : List ℕ). Settled rs [] xs ys) (sym (founded.tables 0 (omega arith))) (sym (founded.heads 0 (omega arith))) (alone_settled (arities_of sheet) rs s)));
    }
