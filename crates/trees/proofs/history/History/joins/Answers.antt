use Rattle.std.proofs.Common.{◌≡◌, ℕ, List, length, get_or, sym, ap, ◌∙◌, arith}
use Rattle.std.proofs.lemmas.List.{get_or_read}
use Rattle.std.proofs.lemmas.Bool.{eq-eqb, eqb-true}
use Rattle.classes.proofs.Decides.{forced_class}
use Rattle.trees.specs.Models.{arities_in, rows_in, stands_in, table_in, heads_in, settled_in}
use Rattle.trees.proofs.Tabled.{settled_tabled}
use Rattle.trees.proofs.history.History.joins.Goals as goal

pub index-requires : goal.index-requires
index-requires c =
    let h = c.args.self.now in
    omega (arith, ap length c.top.ensures.table, (settled_tabled (rows_in h) (stands_in h) (table_in h) (heads_in h) (settled_in h)).lowest.long, c.top.result.now.table.ok.0, c.requires.0)

pub index-requires-2 : goal.index-requires-2
index-requires-2 c =
    let h = c.args.self.now in
    omega (arith, ap length c.top.ensures.table, (settled_tabled (rows_in h) (stands_in h) (table_in h) (heads_in h) (settled_in h)).lowest.long, c.top.result.now.table.ok.0, c.requires.1)

pub returns : goal.returns
returns c =
    let h = c.args.self.now in
    let t = c.top.result.now.table.items in
    let long : length t ≡ length (rows_in h) = ap length c.top.ensures.table ∙ (settled_tabled (rows_in h) (stands_in h) (table_in h) (heads_in h) (settled_in h)).lowest.long in
    let a : c.index.result.now ≡ get_or (table_in h) c.args.a 0 =
    get_or_read t _ _ (omega (arith, long, c.requires.0)) c.index.ensures 0 ∙ ap (λ (xs : List ℕ). get_or xs c.args.a 0) c.top.ensures.table in
    let b : c.index-2.result.now ≡ get_or (table_in h) c.args.b 0 =
    get_or_read t _ _ (omega (arith, long, c.requires.1)) c.index-2.ensures 0 ∙ ap (λ (xs : List ℕ). get_or xs c.args.b 0) c.top.ensures.table in
    let same = forced_class (arities_in h) (rows_in h) (stands_in h) (table_in h) (heads_in h) h.sheet.table.sheet (settled_in h) c.args.a c.args.b c.requires.0 c.requires.1 in (
      λ yes. same.1 (sym a ∙ eqb-true c.index.result.now c.index-2.result.now yes ∙ b),
      λ f. eq-eqb c.index.result.now c.index-2.result.now (a ∙ same.0 f ∙ sym b),
    )
