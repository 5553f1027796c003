use Rattle.std.proofs.Common.{◌≡◌, ℕ, ◌<◌, List, map, Some, vec_items, Option, sym, ap, subst, arith}
use Rattle.std.proofs.lemmas.List.{length-map}
use Rattle.terms.specs.Sheets.{Row}
use Rattle.sheet.specs.Rows.{shape}
use Rattle.sheet.specs.Indexes.{bucket, In, Latest}
use Rattle.sheet.specs.Models.{rows_of}
use Rattle.sheet.proofs.Models.{indexed_rows}
use Rattle.sheet.proofs.Walks.{Walked, ahead, in_bucket, walked_start, walked_step, ahead_falls}
use Rattle.sheet.proofs.writing.OpenSheet.find.Goals as goal

-- the walk has come to a number
reached : (rs : List Row) (r : Row) (o : Option ℕ) (n : ℕ) → o ≡ Some n → Walked rs r o → Walked rs r (Some n)
reached rs r o n is w = subst (λ (p : Option ℕ). Walked rs r p) is w

pub loop-next-init : goal.loop-next-init
loop-next-init c =
    let self = c.args.self.now in
    walked_start (rows_of self) (Row.over c.args.symbol c.args.arguments.now) c.bucket_over.result c.bucket_over.ensures.value c.latest-next.result
    (c.latest-next.ensures (map bucket (rows_of self)) (indexed_rows self))

pub is-requires : goal.is-requires
is-requires c =
    let self = c.args.self.now in
    let here = reached (rows_of self) (Row.over c.args.symbol c.args.arguments.now) c.loop-next.next c.in-Some.number c.in-Some.is c.loop-next.invariant in
    omega (arith, here.0, length-map (vec_items self.table.terms) shape)

pub earlier-next-requires : goal.earlier-next-requires
earlier-next-requires c =
    let self = c.args.self.now in
    let here = reached (rows_of self) (Row.over c.args.symbol c.args.arguments.now) c.loop-next.next c.in-Some.number c.in-Some.is c.loop-next.invariant in
    omega (arith, here.0, (indexed_rows self).long, length-map (rows_of self) bucket)

-- and goes on to the latest before it in the bucket
next : (c : goal.After-earlier-next) → Latest (In (map bucket (rows_of c.args.self.now)) c.bucket_over.result) c.in-Some.number c.earlier-next.result
next c =
    let rs = rows_of c.args.self.now in
    let r = Row.over c.args.symbol c.args.arguments.now in
    let here = reached rs r c.loop-next.next c.in-Some.number c.in-Some.is c.loop-next.invariant in
    c.earlier-next.ensures (map bucket rs) c.bucket_over.result (indexed_rows c.args.self.now)
    (in_bucket rs r c.bucket_over.result c.bucket_over.ensures.value c.in-Some.number here.0 here.1)

pub loop-next-smaller : goal.loop-next-smaller
loop-next-smaller c =
    subst (λ (v : ℕ). ahead c.earlier-next.result < v) (sym (ap ahead c.in-Some.is))
    (ahead_falls (In (map bucket (rows_of c.args.self.now)) c.bucket_over.result) c.in-Some.number c.earlier-next.result (next c))

pub loop-next-preserved : goal.loop-next-preserved
loop-next-preserved c =
    let rs = rows_of c.args.self.now in
    let r = Row.over c.args.symbol c.args.arguments.now in
    let here = reached rs r c.loop-next.next c.in-Some.number c.in-Some.is c.loop-next.invariant in
    walked_step rs r c.bucket_over.result c.bucket_over.ensures.value c.in-Some.number here
    (λ is. let yes_too = c.is.ensures.1 is in let z : ◌≡◌ {A = ℕ} 0 1 = cc in absurd (omega arith)) c.earlier-next.result (next c)
