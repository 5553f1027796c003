use Rattle.std.proofs.Common.{◌≡◌, ℕ, List, Option, [], ◌∷◌, ◌++◌, map, vec_items, sym, ap, ◌∙◌, subst, arith}
use mathlib.Core.Logic.{∥∥₁_map}
use Rattle.std.proofs.lemmas.List.{length-map, map_push}
use Rattle.sheet.specs.Rows.{shape}
use Rattle.sheet.specs.Indexes.{bucket, Indexed}
use Rattle.sheet.specs.Models.{rows_of}
use Rattle.sheet.proofs.Shapes.{rows_push}
use Rattle.sheet.proofs.Models.{indexed_rows}
use Rattle.sheet.proofs.writing.OpenSheet.add.Goals as goal

pub push-requires-2-clause-few : goal.push-requires-2-clause-few
push-requires-2-clause-few c =
    let self = c.args.self.now in
    omega (arith, (indexed_rows self).long, length-map (rows_of self) bucket, c.len-number.ensures.count, c.len-number.ensures.few, c.if-number-eq-TERMS.false)

pub invariant_of-self : goal.invariant_of-self
invariant_of-self c =
    let self = c.args.self.now in
    let bs = map bucket (rows_of self) in
    let index = c.push-2.new.self in
    let grown = rows_push (vec_items self.table.terms) (vec_items c.push.new.self.terms) c.args.term c.push.ensures.terms in
    let buckets : bs ++ (c.bucket_of.result ∷ []) ≡ map bucket (map shape (vec_items c.push.new.self.terms))
    = ap (λ (b : Option ℕ). bs ++ (b ∷ [])) c.bucket_of.ensures.value ∙ sym (ap (map bucket) grown ∙ map_push bucket (rows_of self) (shape c.args.term)) in
    record {
      indexed = ∥∥₁_map self.indexed (λ x. subst (λ (cs : List (Option ℕ)). Indexed cs (vec_items index.latest) (vec_items index.earlier)) buckets (c.push-2.ensures bs x));
    }

pub returns-clause-adds : goal.returns-clause-adds
returns-clause-adds c = (
  omega (arith, c.len-number.ensures.count, c.len-number.ensures.few, c.if-number-eq-TERMS.false),
  c.len-number.ensures.count,
  rows_push (vec_items c.args.self.now.table.terms) (vec_items c.push.new.self.terms) c.args.term c.push.ensures.terms,
)
