use Rattle.std.proofs.Common.{ℕ, List, sym, subst}
use Rattle.terms.specs.Sheets.{Symbols}
use Rattle.sheet.proofs.Models.{table_sheet}
use Rattle.sheet.proofs.table.Table.blank.Goals as goal

pub with_symbols-requires : goal.with_symbols-requires
with_symbols-requires c = subst (λ (xs : List ℕ). Symbols xs) (sym c.as_slice.ensures.value) (table_sheet c.args.self.now).symbols
