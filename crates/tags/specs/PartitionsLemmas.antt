-- What a table says of the equations that it is exact for. Assumes nothing.
use Rattle.std.specs.Prelude.{◌≡◌, ℕ, ◌<◌, List, slice_index, slice_index_or}
use Rattle.std.proofs.Common.{sym, ap, ◌∙◌, arith}
use mathlib.Core.HLevel.{hedberg}
use native.Mathlib.Bridge.{le_prop}
use Rattle.std.proofs.Math.Logic.{∥∥₁_elim}
use Rattle.std.proofs.Math.Decide.{ℕ_discrete}
use Rattle.std.proofs.lemmas.Bool.Decides.{nat_tests}
use Rattle.logic.specs.Trees.{tower, towers}
use Rattle.logic.specs.Theories.{AllTrue}
use Rattle.logic.specs.declared.Equation.{Equation}
use Rattle.logic.proofs.Towers.{tower_same, tree_set}
use Rattle.logic.proofs.Trues.{all_each}
use Rattle.groups.specs.Tables.{Table}
use Rattle.tags.specs.Tags.{tags, agree, ForcedEqual}
use Rattle.tags.specs.Partitions.{Lowests, Exact}

module _ (es : List Equation) (ls : List ℕ) where
  -- that it is exact holds in one way only
  pub exact_plain : ∥ Exact es ls ∥₁ → Exact es ls
  exact_plain x =
      record {
        had = λ k h. (∥∥₁_elim x le_prop (λ y. (y.had k h).0), ∥∥₁_elim x le_prop (λ y. (y.had k h).1));
        joins = λ k h. ∥∥₁_elim x (hedberg ℕ_discrete (slice_index ls (slice_index_or es k (agree 0 0)).left) (slice_index ls (slice_index_or es k (agree 0 0)).right)) (λ y. y.joins k h);
        sound = λ w all i h. ∥∥₁_elim x (tree_set (w.tree i) (w.tree (slice_index ls i))) (λ y. y.sound w all i h);
      }

  -- a world in which the tree of each tag is a tower, of a height that its entry has, makes the equations true
  pub heights_true : (height : ℕ → ℕ) → Exact es ls → AllTrue tags (towers (λ n. height (slice_index ls n))) es
  heights_true height x =
      all_each tags (towers (λ n. height (slice_index ls n))) es (agree 0 0) (λ k h. ap (λ v. tower (height v)) (x.joins k h))

  -- forced-equal tags have one entry
  forced_entries : Exact es ls → (a b : ℕ) → ForcedEqual es a b → slice_index ls a ≡ slice_index ls b
  forced_entries x a b f =
      tower_same (slice_index ls a) (slice_index ls b) (f.1 (towers (λ n. slice_index ls n)) tt (heights_true (λ v. v) x))

  -- and tags with one entry are forced equal
  entries_forced : ∥ Exact es ls ∥₁ → (a b : ℕ) → a < 1024 → b < 1024 → slice_index ls a ≡ slice_index ls b → ForcedEqual es a b
  entries_forced exact a b h k same =
      let x = exact_plain exact in
      (grind (arith, nat_tests), λ w own all. x.sound w all a h ∙ ap w.tree same ∙ sym (x.sound w all b k))

  -- so the table has the lowest members of the groups of forced-equal tags
  pub exact_table : Lowests ls → ∥ Exact es ls ∥₁ → Table 1024 (ForcedEqual es) ls
  exact_table lowests exact =
      record {
        low = λ i h. (lowests i h).0;
        own = λ i h. (lowests i h).1;
        agree = λ i j h k. (forced_entries (exact_plain exact) i j, entries_forced exact i j h k);
      }
