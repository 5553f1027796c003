use Rattle.std.proofs.Common.{◌≡◌, ℕ, vec_items, sym, ◌∙◌, arith}
use Rattle.sheet.specs.declared.rows.Term.TheVariants as V
use Rattle.sheet.proofs.Shapes.{row_read}
use Rattle.sheet.proofs.table.Table.is.Goals as goal

pub returns-in-Name : goal.returns-in-Name
returns-in-Name c =
    let name = row_read (vec_items c.args.self.now.terms) c.args.number c.index.result.now V.Name c.requires c.index.ensures c.in-Name.is in
    (λ never. let z : ◌≡◌ {A = ℕ} 0 1 = cc in absurd (omega arith), λ is. let z : ◌≡◌ {A = ℕ} 0 1 = cc in absurd (omega arith))

pub returns-in-Over : goal.returns-in-Over
returns-in-Over c =
    let over = row_read (vec_items c.args.self.now.terms) c.args.number c.index.result.now (V.Over c.in-Over.compound) c.requires c.index.ensures c.in-Over.is in
    (λ yes. over ∙ c.is.ensures.0 yes, λ is. c.is.ensures.1 (sym over ∙ is))
