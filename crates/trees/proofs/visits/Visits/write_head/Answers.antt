use Rattle.std.proofs.Common.{ℕ, ◌<◌, List, map, length, take, sym, ap, ◌∙◌, subst, ap₂, arith}
use Rattle.terms.specs.Sheets.{Row, row, Writable}
use Rattle.unify.specs.Settling.{number_of}
use Rattle.sheet.specs.Models.{arities_of, rows_of}
use Rattle.trees.specs.Terms.{rows, arguments_of}
use Rattle.trees.specs.Places.{Placed}
use Rattle.trees.proofs.Rows.{place_read, arity_read}
use Rattle.trees.proofs.Ways.{argument_term}
use Rattle.trees.proofs.Turns.{numbers_list, writable_head, over_same}
use Rattle.trees.proofs.visits.Visits.write_head.Goals as goal

pub numbers-numbers-requires-clause-arguments : goal.numbers-numbers-requires-clause-arguments
numbers-numbers-requires-clause-arguments c =
    let w = c.requires.writing in
    let ts = c.args.terms.list.now in
    let h = c.args.head in
    let r = row (rows ts) h in
    let read = c.in-Some.ensures in
    λ i l.
    let within : i < length (arguments_of ts h) = omega (arith, arity_read r c.in-Some.compound read) in
    omega (arith, place_read r c.in-Some.compound i read within, argument_term ts w.terms h i (omega (arith, w.terms.many, w.head)) within, w.lowest.long)

pub write_over-requires-clause-writable : goal.write_over-requires-clause-writable
write_over-requires-clause-writable c =
    let compound = c.in-Some.compound in
    let g = number_of c.args.layer.now.table.items c.args.self.now.marks.items in
    let ar = arities_of c.args.self.now.order in
    let P = rows_of c.args.self.now.order in
    let listed = numbers_list compound c.numbers-numbers.result g (omega arith) c.numbers-numbers.ensures in
    subst (λ (xs : List ℕ). Writable ar (length P) compound.symbol xs) (sym listed)
    (writable_head c.args.terms.list.now c.args.layer.now.table.items c.args.self.now.marks.items ar P c.args.class c.args.head
    compound.symbol (take compound.arity compound.arguments) c.requires.writing c.in-Some.ensures)

pub returns-in-Some-clause-placed : goal.returns-in-Some-clause-placed
returns-in-Some-clause-placed c =
    let compound = c.in-Some.compound in
    let g = number_of c.args.layer.now.table.items c.args.self.now.marks.items in
    let listed = numbers_list compound c.numbers-numbers.result g (omega arith) c.numbers-numbers.ensures in
    λ s xs e.
    let both = over_same (row (rows c.args.terms.list.now) c.args.head) compound.symbol s (take compound.arity compound.arguments) xs c.in-Some.ensures e in
    subst (λ (r : Row). Placed c.args.self.now.marks.items (rows_of c.args.self.now.order) c.write_over.new.self.marks.items (rows_of c.write_over.new.self.order) c.args.class r)
    (ap₂ Row.over both.0 (listed ∙ ap (map g) both.1)) c.write_over.ensures.placed
