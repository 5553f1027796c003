use Rattle.terms.specs.Sheets.{Row}
use Rattle.sheet.specs.Models.{rows_of}
use Rattle.sheet.proofs.Walks.{Walked, ahead}
use Rattle.sheet.proofs.writing.OpenSheet.find.Given as goal

abbrev pub invariant-loop-next : goal.invariant-loop-next
invariant-loop-next l = Walked (rows_of l.self) (Row.over l.symbol l.arguments) l.next

abbrev pub decreases-loop-next : goal.decreases-loop-next
decreases-loop-next l = ahead l.next
