use Rattle.std.proofs.Common.{◌≡◌, ℕ, List, length, vec_items, sym, ap, ◌∙◌, subst, subst₂, arith}
use Rattle.std.proofs.lemmas.Result.{on_ok_weaker, on_err_weaker}
use Rattle.classes.specs.Classes.{class, Settled}
use Rattle.unify.specs.Settling.{Tabled, Refuted}
use Rattle.trees.specs.Terms.{rows}
use Rattle.trees.specs.Layers.{table_at, heads_at}
use Rattle.trees.specs.declared.layer.Layer.{Layer}
use Rattle.trees.proofs.Layering.{table_read, heads_read, joined_parts, front_read}
use Rattle.trees.proofs.settling.next_layer.Goals as goal

pub bring-requires-clause-tabled : goal.bring-requires-clause-tabled
bring-requires-clause-tabled c =
    let ls = c.args.layers.now in
    let k = c.args.level in
    let split = c.split_at_mut-olds in
    let old = c.index-olds-level.result in
    let read = front_read ls split.result.0.now k old split.ensures.front c.index-olds-level.is in
    let table : c.copy_from.new.self.table.items ≡ table_at k ls
    = c.copy_from.ensures.table ∙ ap (λ (l : Layer). vec_items l.table) (sym c.index-olds-level.is) ∙ sym (table_read ls k old (omega arith) read) in
    let heads : c.copy_from.new.self.heads.items ≡ heads_at k ls
    = c.copy_from.ensures.heads ∙ ap (λ (l : Layer). vec_items l.heads) (sym c.index-olds-level.is) ∙ sym (heads_read ls k old (omega arith) read) in
    subst₂ (λ (xs ys : List ℕ). Tabled (rows c.args.terms.list.now) xs ys) (sym table) (sym heads) c.requires.tabled

pub returns-clause-next : goal.returns-clause-next
returns-clause-next c =
    let ls = c.args.layers.now in
    let rs = rows c.args.terms.list.now in
    let k = c.args.level in
    let split = c.split_at_mut-olds in
    let old = c.index-olds-level.result in
    let read = front_read ls split.result.0.now k old split.ensures.front c.index-olds-level.is in
    let table : c.copy_from.new.self.table.items ≡ table_at k ls
    = c.copy_from.ensures.table ∙ ap (λ (l : Layer). vec_items l.table) (sym c.index-olds-level.is) ∙ sym (table_read ls k old (omega arith) read) in
    let heads : c.copy_from.new.self.heads.items ≡ heads_at k ls
    = c.copy_from.ensures.heads ∙ ap (λ (l : Layer). vec_items l.heads) (sym c.index-olds-level.is) ∙ sym (heads_read ls k old (omega arith) read) in
    record {
      next = c.bring.new.self;
      placed = joined_parts ls split.result.0.now split.result.1.now k c.bring.new.self split.ensures.value split.ensures.front_len;
      wide = omega (arith, c.bring.ensures.long, ap length table, c.requires.tabled.lowest.long, c.copy_from.new.self.table.ok.0);
      settles = on_ok_weaker c.bring.result (λ settles es settled. settles es (subst₂ (λ (xs ys : List ℕ). Settled rs es xs ys) (sym table) (sym heads) settled)) c.bring.ensures.yes;
      refutes = on_err_weaker c.bring.result (subst (λ (xs : List ℕ). Refuted rs (class xs) c.args.e.left c.args.e.right) table) c.bring.ensures.no;
    }
