use Rattle.std.proofs.Common.{◌≡◌, ℕ, min, max, cond, eqb, map, length, get_or, sym, ◌∙◌, ap₂, arith}
use Rattle.std.proofs.lemmas.List.{ext_get_or, get_or-map, length-map}
use Rattle.tags.proofs.partition.Partition.joined.Goals as goal

pub returns : goal.returns
returns c =
    let ls = c.args.self.now.lowest in
    let high = max (get_or ls c.args.a 0) (get_or ls c.args.b 0) in
    let low = min (get_or ls c.args.a 0) (get_or ls c.args.b 0) in
    let renamed : ℕ → ℕ = λ x. cond (eqb x high) low x in
    let long : length ls ≡ 1024 = omega arith in
    ext_get_or 0 c.loop-x.x-items (map renamed ls) (c.loop-x-test.array_long ∙ sym long ∙ sym (length-map ls renamed))
    (λ k h. c.loop-x.invariant.0 k (omega arith)
    ∙ ap₂ (λ (x y : ℕ). cond (eqb (get_or ls k 0) x) y (get_or ls k 0)) c.max-high.ensures c.min-low.ensures
    ∙ sym (get_or-map renamed ls k 0 0 (omega arith)))
