use Rattle.std.proofs.Common.{◌≡◌, length}
use Rattle.terms.specs.Sheets.{row, Compound}
use Rattle.classes.specs.Classes.{class}
use Rattle.unify.specs.Firsts.{Firsts}
use Rattle.trees.specs.Terms.{rows}
use Rattle.trees.proofs.layer.Layer.find_heads.Given as goal

abbrev pub invariant-loop-a : goal.invariant-loop-a
invariant-loop-a l =
    Firsts (λ t. Compound (row (rows l.terms.list.now) t)) (class l.self.table.items) (length (rows l.terms.list.now)) l.a l.self.heads.items
    × (length l.self.heads.items ≡ length (rows l.terms.list.now))
    × (l.self.table.items ≡ l.initial.self.table.items)
