use Rattle.std.proofs.Common.{◌≡◌, ◌≤◌, length, map, vec_len, vec_capacity}
use Rattle.std.specs.List.{range_with_len}
use Rattle.terms.specs.Sheets.{row}
use Rattle.trees.specs.Terms.{rows, head_alone}
use Rattle.trees.proofs.layer.Layer.apart.Given as goal

abbrev pub invariant-loop-a : goal.invariant-loop-a
invariant-loop-a l =
    record {
      table : l.table.items ≡ map (λ n. n) (range_with_len 0 l.a);
      heads : l.heads.items ≡ map (λ n. head_alone n (length l.terms.list.now) (row (rows l.terms.list.now) n)) (range_with_len 0 l.a);
      table_count : vec_len l.table ≡ l.a;
      heads_count : vec_len l.heads ≡ l.a;
      table_room : l.count ≤ vec_capacity l.table;
      heads_room : l.count ≤ vec_capacity l.heads;
    }
