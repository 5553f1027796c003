use Rattle.std.proofs.Common.{arith}
use Rattle.sheet.proofs.Models.{table_sheet}
use Rattle.sheet.proofs.table.Table.symbols.Goals as goal

pub returns-clause-few : goal.returns-clause-few
returns-clause-few c = let self = c.args.self.now in omega (arith, self.arities.ok.0, (table_sheet self).symbols.few)
