-- The table of a partition, as equations are taken. Assumes nothing.
use Rattle.std.proofs.Common.{◌≡◌, ℕ, ◌<◌, min, max, cond, eqb, List, [], ◌∷◌, ◌++◌, length, get_or, sym, ap, ◌∙◌, arith}
use Rattle.std.proofs.lemmas.List.{get_or-map}
use Rattle.std.proofs.lemmas.Bool.Decides.{nat_tests}
use Rattle.logic.specs.Trees.{World, Tree}
use Rattle.logic.specs.Theories.{AllTrue}
use Rattle.logic.specs.declared.Equation.{Equation}
use Rattle.logic.proofs.Lists.{each_push}
use Rattle.logic.proofs.Trues.{all_older, all_newest}
use Rattle.tags.specs.Tags.{tags, agree}
use Rattle.tags.specs.Partitions.{Exact, joining}

-- with nothing standing each tag is apart
pub exact_apart : (ls : List ℕ) → ((i : ℕ) → i < 1024 → get_or ls i 0 ≡ i) → Exact [] ls
exact_apart ls apart = record { had = λ k h. absurd (omega arith); joins = λ k h. absurd (omega arith); sound = λ w all i h. ap w.tree (sym (apart i h)) }

-- a number, and what it is renamed to where the lower of a and b takes the place of the higher, have one tree if a and b have
renamed_tree : (tree : ℕ → Tree) (a b v : ℕ) → tree a ≡ tree b → tree v ≡ tree (cond (eqb v (max a b)) (min a b) v)
renamed_tree tree a b v same = grind (arith, nat_tests)

-- the lower of two numbers takes the place of the higher
renamed_first : (x y : ℕ) → cond (eqb x (max x y)) (min x y) x ≡ min x y
renamed_first x y = grind (arith, nat_tests)

renamed_second : (x y : ℕ) → cond (eqb y (max x y)) (min x y) y ≡ min x y
renamed_second x y = grind (arith, nat_tests)

-- the table after the groups of both sides of an equation are made one
module _ (es : List Equation) (ls : List ℕ) (e : Equation) (long : length ls ≡ 1024) (left : e.left < 1024) (right : e.right < 1024) (x : Exact es ls) where
  renamed : ℕ → ℕ
  renamed v = cond (eqb v (max (get_or ls e.left 0) (get_or ls e.right 0))) (min (get_or ls e.left 0) (get_or ls e.right 0)) v

  at : (i : ℕ) → i < 1024 → get_or (joining ls e.left e.right) i 0 ≡ renamed (get_or ls i 0)
  unfolding renamed
  at i h = get_or-map renamed ls i 0 0 (omega arith)

  at_left : get_or (joining ls e.left e.right) e.left 0 ≡ min (get_or ls e.left 0) (get_or ls e.right 0)
  unfolding renamed
  at_left = at e.left left ∙ renamed_first (get_or ls e.left 0) (get_or ls e.right 0)

  at_right : get_or (joining ls e.left e.right) e.right 0 ≡ min (get_or ls e.left 0) (get_or ls e.right 0)
  unfolding renamed
  at_right = at e.right right ∙ renamed_second (get_or ls e.left 0) (get_or ls e.right 0)

  sides : (w : World) → AllTrue tags w es → tags.holds w e → w.tree (get_or ls e.left 0) ≡ w.tree (get_or ls e.right 0)
  sides w all new = sym (x.sound w all e.left left) ∙ new ∙ x.sound w all e.right right

  moved : (w : World) → AllTrue tags w es → tags.holds w e → (i : ℕ) → i < 1024 → w.tree i ≡ w.tree (get_or (joining ls e.left e.right) i 0)
  unfolding renamed
  moved w all new i h =
      x.sound w all i h ∙ renamed_tree w.tree (get_or ls e.left 0) (get_or ls e.right 0) (get_or ls i 0) (sides w all new) ∙ sym (ap w.tree (at i h))

  pub exact_joined : Exact (es ++ (e ∷ [])) (joining ls e.left e.right)
  exact_joined =
      let after = joining ls e.left e.right in
      record {
        had = each_push (λ k (f : Equation). (f.left < 1024) × (f.right < 1024)) es e (agree 0 0) x.had (left, right);
        joins = each_push (λ k (f : Equation). get_or after f.left 0 ≡ get_or after f.right 0) es e (agree 0 0)
            (λ k h. at (get_or es k (agree 0 0)).left (x.had k h).0 ∙ ap renamed (x.joins k h) ∙ sym (at (get_or es k (agree 0 0)).right (x.had k h).1)) (at_left ∙ sym at_right);
        sound = λ w all. moved w (all_older tags w es e all) (all_newest tags w es e all);
      }
