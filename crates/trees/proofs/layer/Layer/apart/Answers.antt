use Rattle.std.proofs.Common.{length, refl, arith}
use Rattle.terms.specs.Sheets.{row}
use Rattle.trees.specs.Terms.{rows, head_alone}
use Rattle.trees.proofs.Layering.{more_listed}
use Rattle.trees.proofs.layer.Layer.apart.Goals as goal

pub loop-a-preserved : goal.loop-a-preserved
loop-a-preserved c =
    let ts = c.args.terms.list.now in
    let a = c.loop-a.a in
    let old = c.loop-a.invariant in
    record {
      table = more_listed (λ n. n) c.loop-a.table.items _ a a old.table c.push_reserved.ensures.items refl;
      heads = more_listed (λ n. head_alone n (length ts) (row (rows ts) n)) c.loop-a.heads.items _ a _ old.heads c.push_reserved-in-loop-a.ensures.items c.head.ensures;
      table_count = omega (arith, old.table_count);
      heads_count = omega (arith, old.heads_count);
      table_room = omega (arith, old.table_room);
      heads_room = omega (arith, old.heads_room);
    }
