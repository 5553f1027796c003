use Rattle.std.proofs.Common.{◌≡◌, ℕ, ◌<◌, ◌≤◌, length, vec_items, vec_len, vec_capacity}
use Rattle.trees.specs.Terms.{rows, alone, heads_alone}
use Rattle.trees.specs.Layers.{table_at, heads_at}
use Rattle.trees.proofs.standing.layers.Given as goal

abbrev pub invariant-loop : goal.invariant-loop
invariant-loop l =
    record {
      count : vec_len l.layers ≡ l.counter;
      room : 257 ≤ vec_capacity l.layers;
      tables : (k : ℕ) → k < l.counter → table_at k l.layers.items ≡ alone (length l.terms.list.now);
      heads : (k : ℕ) → k < l.counter → heads_at k l.layers.items ≡ heads_alone (length l.terms.list.now) (rows l.terms.list.now);
      apart_table : vec_items l.apart.table ≡ alone (length l.terms.list.now);
      apart_heads : vec_items l.apart.heads ≡ heads_alone (length l.terms.list.now) (rows l.terms.list.now);
    }
