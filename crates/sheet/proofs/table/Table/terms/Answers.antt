use Rattle.sheet.proofs.Models.{table_sheet}
use Rattle.sheet.proofs.table.Table.terms.Goals as goal

pub returns-clause-sheet : goal.returns-clause-sheet
returns-clause-sheet c = table_sheet c.args.self.now
