use Rattle.std.proofs.Common.{ℕ, List, [], ◌∷◌, ◌++◌, length, sym, subst, arith}
use Rattle.std.proofs.lemmas.Result.{err_from_is_err_and}
use Rattle.classes.specs.Classes.{class, Settled}
use Rattle.unify.specs.Settling.{Lows, number_of}
use Rattle.unify.proofs.Settles.{settled_next, unfit_refuted, numbers_below}
use Rattle.sheet.proofs.Sheets.{sheet_plain}
use Rattle.sheet.specs.Models.{arities_of, rows_of}
use Rattle.trees.specs.Terms.{rows}
use Rattle.trees.proofs.Ways.{argument_term}
use Rattle.trees.proofs.layer.Layer.bring.Goals as goal

pub lower-requires-clause-numbers : goal.lower-requires-clause-numbers
lower-requires-clause-numbers c =
    let ts = c.args.terms.list.now in
    let ls = c.unify.new.self.table.items in
    let unified = c.in_ok-unify.ensures.yes in
    λ a la.
    omega (
      arith,
      unified.lowest.long,
      c.unify.new.self.table.ok.0,
      numbers_below (rows ts) ls c.unify.new.self.heads.items c.visit_all.new.self.marks.items (rows_of c.visit_all.new.self.order) unified.lowest c.in_ok-visit_all.ensures.yes a
          (omega (arith, unified.lowest.long, c.unify.new.self.table.ok.0)),
    )

pub returns-in_err-visit_all-clause-no : goal.returns-in_err-visit_all-clause-no
returns-in_err-visit_all-clause-no c =
    let p = err_from_is_err_and c.from_residual-in_err-visit_all.result c.from_residual-in_err-visit_all.ensures.1 in
    rw p.1 (unfit_refuted (rows c.args.terms.list.now) (class c.args.self.now.table.items) c.args.e.left c.args.e.right c.unify.new.self.table.items c.unify.new.self.heads.items
    c.in_ok-unify.ensures.yes c.in_err-visit_all.ensures.no)

pub returns-clause-yes : goal.returns-clause-yes
returns-clause-yes c =
    let ts = c.args.terms.list.now in
    let rs = rows ts in
    let self = c.args.self.now in
    let us = c.unify.new.self.table.items in
    let ks = c.unify.new.self.heads.items in
    let ms = c.visit_all.new.self.marks.items in
    let order = c.visit_all.new.self.order in
    let unified = c.in_ok-unify.ensures.yes in
    let lows : Lows (length rs) (number_of us ms) c.lower.new.self.table.items
    = subst (λ (n : ℕ). Lows n (number_of us ms) c.lower.new.self.table.items) (omega (arith, unified.lowest.long, c.unify.new.self.table.ok.0)) c.lower.ensures.lows in
    λ es settled.
    subst (λ (ls : List ℕ). Settled rs (es ++ (c.args.e ∷ [])) ls c.find_heads.new.self.heads.items) (sym c.find_heads.ensures.table)
    (settled_next (arities_of order) rs es c.args.e self.table.items self.heads.items us ks ms (rows_of order)
    c.lower.new.self.table.items c.find_heads.new.self.heads.items (argument_term ts c.args.terms.orderly)
    (omega (arith, c.args.terms.orderly.many, c.requires.sides.0)) (omega (arith, c.args.terms.orderly.many, c.requires.sides.1))
    settled unified (sheet_plain (arities_of order) (rows_of order) order.table.sheet) c.in_ok-visit_all.ensures.yes lows c.find_heads.ensures.heads)
