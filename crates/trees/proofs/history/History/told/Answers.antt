use Rattle.std.proofs.Common.{◌≡◌, ℕ, ◌≤◌, List, length, sym, ap, ◌∙◌, subst, subst₂, arith}
use mathlib.Core.Logic.{∥∥₁_elim}
use native.Mathlib.Bridge.{le_prop}
use Rattle.logic.specs.Tellings.{kind_number}
use Rattle.logic.specs.Tellings.Told.{told}
use Rattle.terms.specs.Trees.{TreeTold}
use Rattle.classes.specs.Classes.{Lowest}
use Rattle.trees.specs.Models.{arities_in, rows_in, stands_in, table_in, heads_in, settled_in, told_by_table}
use Rattle.trees.proofs.Tabled.{settled_tabled}
use Rattle.trees.proofs.Tells.{name_told}
use Rattle.trees.proofs.history.History.told.Goals as goal

pub told-requires-clause-few : goal.told-requires-clause-few
told-requires-clause-few c =
    let h = c.args.self.now in
    let few : length (rows_in h) ≤ 1024 = ∥∥₁_elim h.sheet.table.sheet le_prop (λ y. y.few) in
    let tabled = settled_tabled (rows_in h) (stands_in h) (table_in h) (heads_in h) (settled_in h) in
    omega (arith, few, ap length c.top.ensures.table, tabled.lowest.long, c.top.result.now.table.ok.0)

pub told-requires-clause-lowest : goal.told-requires-clause-lowest
told-requires-clause-lowest c =
    let h = c.args.self.now in
    let top = c.top.result.now in
    let tabled = settled_tabled (rows_in h) (stands_in h) (table_in h) (heads_in h) (settled_in h) in
    let long : length top.table.items ≡ length (rows_in h) = ap length c.top.ensures.table ∙ tabled.lowest.long in
    subst₂ (λ (n : ℕ) (xs : List ℕ). Lowest n xs) (omega (arith, long, top.table.ok.0)) (sym c.top.ensures.table) tabled.lowest

pub told-requires-clause-name : goal.told-requires-clause-name
told-requires-clause-name c =
    let h = c.args.self.now in
    let top = c.top.result.now in
    let tabled = settled_tabled (rows_in h) (stands_in h) (table_in h) (heads_in h) (settled_in h) in
    omega (arith, c.requires.0, ap length c.top.ensures.table, tabled.lowest.long, top.table.ok.0)

pub returns : goal.returns
returns c =
    let h = c.args.self.now in
    let n = c.args.name in
    let top = c.top.result.now in
    let tabled = settled_tabled (rows_in h) (stands_in h) (table_in h) (heads_in h) (settled_in h) in
    let long : length top.table.items ≡ length (rows_in h) = ap length c.top.ensures.table ∙ tabled.lowest.long in
    let answer : told (kind_number c.told.result.0) c.told.result.1 ≡ told_by_table (rows_in h) (table_in h) (heads_in h) n
    = subst₂ (λ (ls hs : List ℕ). told (kind_number c.told.result.0) c.told.result.1 ≡ told_by_table (rows_in h) ls hs n) c.top.ensures.table c.top.ensures.heads
    (c.told.ensures (rows_in h) (omega (arith, long, top.table.ok.0))) in
    subst (TreeTold (arities_in h) (rows_in h) (stands_in h) n) (sym answer)
    (name_told (arities_in h) (rows_in h) (stands_in h) (table_in h) (heads_in h) h.sheet.table.sheet (settled_in h) n c.requires.0 c.requires.1)
