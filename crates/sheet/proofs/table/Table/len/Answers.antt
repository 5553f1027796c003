use Rattle.std.proofs.Common.{vec_items, arith}
use Rattle.std.proofs.lemmas.List.{length-map}
use Rattle.sheet.specs.Rows.{shape}
use Rattle.sheet.proofs.Models.{table_sheet}
use Rattle.sheet.proofs.table.Table.len.Goals as goal

pub returns-clause-few : goal.returns-clause-few
returns-clause-few c =
    let self = c.args.self.now in
    omega (arith, length-map (vec_items self.terms) shape, self.terms.ok.0, (table_sheet self).few)
