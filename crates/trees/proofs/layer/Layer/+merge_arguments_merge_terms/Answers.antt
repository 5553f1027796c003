use Rattle.std.proofs.Common.{◌≡◌, ◌<◌, true, length, is_ok, sym, ◌∙◌, arith}
use Rattle.terms.specs.Sheets.{row}
use Rattle.unify.specs.Merging.{alike}
use Rattle.unify.proofs.Lists.{alike_length}
use Rattle.trees.specs.Terms.{rows, arguments_of}
use Rattle.trees.proofs.Ways.{merge_next}
use Rattle.trees.proofs.Uniting.{unite_same, unite_parents, unite_fewer, unite_left, unite_right, unite_unlike, unite_alike}
use Rattle.trees.proofs.layer.Layer.+merge_arguments_merge_terms.Goals as goal
use Rattle.trees.proofs.layer.Layer.+merge_arguments_merge_terms.Goals.{merge_terms-then-first-len-via-then-first-len, merge_terms-then-first-len-via-else-first-len+then-second-len}

pub merge_arguments-returns : goal.merge_arguments-returns
merge_arguments-returns t c =
    let ts = c.args.terms.list.now in
    let left : c.argument-x.result < length ts = omega (arith, c.argument-x.ensures, c.args.terms.orderly.lower c.args.a c.args.place c.requires.sides.0 (omega arith)) in
    let right : c.argument-y.result < length ts = omega (arith, c.argument-y.ensures, c.args.terms.orderly.lower c.args.b c.args.place c.requires.sides.1 (omega arith)) in
    merge_next ts c.args.terms.orderly c.args.self.now.table.items c.args.self.now.heads.items (arguments_of ts c.args.a) (arguments_of ts c.args.b) c.args.place
    c.argument-x.result c.argument-y.result c.argument-x.ensures c.argument-y.ensures (omega arith) c.merge_terms.new.self.table.items c.merge_terms.new.self.heads.items
    c.in_ok-merge_terms.ensures left right
    c.merge_arguments.new.self.table.items c.merge_arguments.new.self.heads.items (is_ok c.merge_arguments.result) c.merge_arguments.ensures

pub merge_terms-returns-then-x-y : goal.merge_terms-returns-then-x-y
merge_terms-returns-then-x-y t c =
    unite_same c.args.terms.list.now c.args.terms.orderly c.args.self.now c.find-x.new.self c.find-y.new.self c.args.a c.args.b c.find-x.result c.find-y.result
    c.requires.parents c.requires.sides.0 c.requires.sides.1 c.find-x.ensures c.find-y.ensures c.if-x-y.true

pub merge_terms-returns-then-first-len : goal.merge_terms-returns-then-first-len
merge_terms-returns-then-first-len t c =
    elim c.then-first-len.branch [
      | merge_terms-then-first-len-via-then-first-len w ↦
          unite_left c.args.terms.list.now c.args.terms.orderly c.args.self.now c.find-x.new.self c.find-y.new.self c.args.a c.args.b c.find-x.result c.find-y.result
          c.requires.parents c.requires.sides.0 c.requires.sides.1 c.find-x.ensures c.find-y.ensures c.if-x-y.false c.join.new.self c.join.ensures.parents c.join.ensures.heads
          c.index-first.result.now c.index-second.result.now c.index-first.ensures c.index-second.ensures
          (omega (arith, c.len.ensures.count, w.if-first-len.true))
      | merge_terms-then-first-len-via-else-first-len+then-second-len w ↦
          unite_right c.args.terms.list.now c.args.terms.orderly c.args.self.now c.find-x.new.self c.find-y.new.self c.args.a c.args.b c.find-x.result c.find-y.result
          c.requires.parents c.requires.sides.0 c.requires.sides.1 c.find-x.ensures c.find-y.ensures c.if-x-y.false c.join.new.self c.join.ensures.parents c.join.ensures.heads
          c.index-first.result.now c.index-second.result.now c.index-first.ensures c.index-second.ensures
          (omega (arith, w.len-else-first-len.ensures.count, w.if-second-len.true))
    ]

pub merge_terms-returns-then-not-alike : goal.merge_terms-returns-then-not-alike
merge_terms-returns-then-not-alike t c =
    unite_unlike c.args.terms.list.now c.args.terms.orderly c.args.self.now c.find-x.new.self c.find-y.new.self c.args.a c.args.b c.find-x.result c.find-y.result
    c.requires.parents c.requires.sides.0 c.requires.sides.1 c.find-x.ensures c.find-y.ensures c.if-x-y.false c.join.new.self c.join.ensures.parents c.join.ensures.heads
    c.index-first.result.now c.index-second.result.now c.index-first.ensures c.index-second.ensures
    (omega (arith, c.len.ensures.count)) (omega (arith, c.len-else-first-len.ensures.count)) (sym c.alike.ensures ∙ c.if-not-alike.true)

pub merge_terms-merge_arguments-requires : goal.merge_terms-merge_arguments-requires
merge_terms-merge_arguments-requires t c =
    let ts = c.args.terms.list.now in
    let like : alike (row (rows ts) c.index-first.result.now) (row (rows ts) c.index-second.result.now) ≡ true = sym c.alike.ensures ∙ c.if-not-alike.false in
    let fewer = unite_fewer c.args.terms.list.now c.args.terms.orderly c.args.self.now c.find-x.new.self c.find-y.new.self c.args.a c.args.b c.find-x.result c.find-y.result
    c.requires.parents c.requires.sides.0 c.requires.sides.1 c.find-x.ensures c.find-y.ensures c.if-x-y.false c.join.new.self c.join.ensures.parents c.join.ensures.heads in (
      omega (arith, fewer, c.decreases),
      (
        unite_parents c.args.terms.list.now c.args.terms.orderly c.args.self.now c.find-x.new.self c.find-y.new.self c.args.a c.args.b c.find-x.result c.find-y.result
            c.requires.parents c.requires.sides.0 c.requires.sides.1 c.find-x.ensures c.find-y.ensures c.if-x-y.false c.join.new.self c.join.ensures.parents c.join.ensures.heads,
        (
          (omega (arith, c.len.ensures.count), omega (arith, c.len-else-first-len.ensures.count)),
          (alike_length (row (rows ts) c.index-first.result.now) (row (rows ts) c.index-second.result.now) like, omega arith),
        ),
      ),
    )

pub merge_terms-returns : goal.merge_terms-returns
merge_terms-returns t c =
    unite_alike c.args.terms.list.now c.args.terms.orderly c.args.self.now c.find-x.new.self c.find-y.new.self c.args.a c.args.b c.find-x.result c.find-y.result
    c.requires.parents c.requires.sides.0 c.requires.sides.1 c.find-x.ensures c.find-y.ensures c.if-x-y.false c.join.new.self c.join.ensures.parents c.join.ensures.heads
    c.index-first.result.now c.index-second.result.now c.index-first.ensures c.index-second.ensures
    (omega (arith, c.len.ensures.count)) (omega (arith, c.len-else-first-len.ensures.count)) (sym c.alike.ensures ∙ c.if-not-alike.false)
    c.merge_arguments.new.self.table.items c.merge_arguments.new.self.heads.items (is_ok c.merge_arguments.result) c.merge_arguments.ensures
