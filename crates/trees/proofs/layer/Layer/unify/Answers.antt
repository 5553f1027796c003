use Rattle.std.proofs.Common.{◌≡◌, ℕ, List, length, sym, refl, ◌∙◌, subst, arith}
use Rattle.std.proofs.lemmas.Result.{err_from_is_err_and}
use Rattle.classes.specs.Classes.{class}
use Rattle.unify.specs.Parents.{Rooted}
use Rattle.unify.specs.Settling.{Unified}
use Rattle.unify.proofs.Settles.{flat_rooted, heads_tops, unified}
use Rattle.trees.specs.Terms.{rows}
use Rattle.trees.proofs.Ways.{argument_term}
use Rattle.trees.proofs.layer.Layer.unify.Goals as goal

pub returns-in_err-merge_terms-clause-no : goal.returns-in_err-merge_terms-clause-no
returns-in_err-merge_terms-clause-no c =
    let rs = rows c.args.terms.list.now in
    let table = c.args.self.now.table.items in
    let p = err_from_is_err_and c.from_residual.result c.from_residual.ensures.1 in
    rw p.1 ((c.in_err-merge_terms.ensures.answer (class table) (flat_rooted (length rs) table c.requires.tabled.lowest) (heads_tops rs table c.args.self.now.heads.items c.requires.tabled.heads)
    ).clash refl)

pub returns-clause-yes : goal.returns-clause-yes
returns-clause-yes c =
    let ts = c.args.terms.list.now in
    let rs = rows ts in
    let table = c.args.self.now.table.items in
    let qs = c.merge_terms.new.self.table.items in
    let brought = (c.in_ok-merge_terms.ensures.answer (class table) (flat_rooted (length rs) table c.requires.tabled.lowest) (heads_tops rs table c.args.self.now.heads.items c.requires.tabled.heads)
    ).brought refl in
    let long : length qs ≡ length rs = c.merge_terms.ensures.parents.long ∙ sym c.args.terms.orderly.many in
    let rooted : Rooted (length qs) qs brought.g = subst (λ (n : ℕ). Rooted n qs brought.g) (sym long) brought.rooted in
    subst (λ (ks : List ℕ). Unified rs (class table) c.args.left c.args.right c.flatten.new.self.table.items ks) (sym c.flatten.ensures.heads)
    (unified rs (argument_term ts c.args.terms.orderly) table qs c.flatten.new.self.table.items c.merge_terms.new.self.heads.items c.args.left c.args.right
    (omega (arith, c.args.terms.orderly.many, c.requires.sides.0)) (omega (arith, c.args.terms.orderly.many, c.requires.sides.1)) c.requires.tabled.closed brought
    (omega (arith, long, c.flatten.ensures.long)) (λ a la. c.flatten.ensures.flat brought.g rooted a (omega (arith, long))))
