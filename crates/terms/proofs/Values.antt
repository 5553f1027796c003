-- The values of the terms of a sheet are the one assignment that fits its rows and the world. Assumes nothing.
use Rattle.std.proofs.Common.{◌≡◌, ℕ, zero, suc, ◌<◌, List, length, get_or, sym, refl, ap, ◌∙◌, arith}
use Rattle.logic.specs.Trees.{Tree, World}
use Rattle.terms.specs.Sheets.{Row, row, Sheet}
use Rattle.terms.specs.Values.{forest, Solves, Values, grown, deep, value}
use Rattle.terms.proofs.Lists.{map_same}

-- the value of a name is the world's tree
pub value_name : (rs : List Row) (w : World) (n : ℕ) → row rs n ≡ Row.name → value rs w n ≡ w.tree n
value_name rs w n e = ap (grown (deep n rs w) (w.tree n)) e

module _ (ar : List ℕ) (rs : List Row) (sheet : Sheet ar rs) where
  -- trees that fit the rows and agree at the names agree at every term
  deep_same : (v u : ℕ → Tree) → Solves rs v → Solves rs u → ((n : ℕ) → n < length rs → row rs n ≡ Row.name → v n ≡ u n)
      → (d n : ℕ) → n < d → n < length rs → v n ≡ u n
  deep_same v u fits solves names zero n h k = absurd (omega arith)
  deep_same v u fits solves names (suc d) n h k = by_row (λ x l m. deep_same v u fits solves names d x l m) (row rs n) refl
    where
      by_row : ((x : ℕ) → x < d → x < length rs → v x ≡ u x) → (r : Row) → row rs n ≡ r → v n ≡ u n
      by_row before Row.name e = names n k e
      by_row before (Row.over s xs) e =
          fits n s xs k e
          ∙ ap (λ (ts : List Tree). Tree.node s (forest ts))
          (map_same v u xs (λ i l. let lower = (sheet.rows n s xs k e).lower i l in before (get_or xs i 0) (omega arith) (omega arith)))
          ∙ sym (solves n s xs k e)

  solved_same : (v u : ℕ → Tree) → Solves rs v → Solves rs u → ((n : ℕ) → n < length rs → row rs n ≡ Row.name → v n ≡ u n)
      → (n : ℕ) → n < length rs → v n ≡ u n
  solved_same v u fits solves names n h = deep_same v u fits solves names (suc n) n (omega arith) h

  -- the depth does not matter, from the number of the term on
  depth_same : (w : World) (d k n : ℕ) → n < d → n < k → n < length rs → deep d rs w n ≡ deep k rs w n
  depth_same w zero k n h i l = absurd (omega arith)
  depth_same w (suc d) zero n h i l = absurd (omega arith)
  depth_same w (suc d) (suc k) n h i l = by_row (λ x a b c. depth_same w d k x a b c) (row rs n) refl
    where
      by_row : ((x : ℕ) → x < d → x < k → x < length rs → deep d rs w x ≡ deep k rs w x) → (r : Row) → row rs n ≡ r
          → grown (deep d rs w) (w.tree n) r ≡ grown (deep k rs w) (w.tree n) r
      by_row before Row.name e = refl
      by_row before (Row.over s xs) e =
          ap (λ (ts : List Tree). Tree.node s (forest ts))
          (map_same (deep d rs w) (deep k rs w) xs
          (λ j m. let lower = (sheet.rows n s xs l e).lower j m in before (get_or xs j 0) (omega arith) (omega arith) (omega arith)))

  -- the values are such an assignment
  pub value_is : (w : World) → Values rs w (value rs w)
  value_is w =
      record {
        name = λ n h e. value_name rs w n e;
        compound = λ n s xs h e.
            ap (grown (deep n rs w) (w.tree n)) e
            ∙ ap (λ (ts : List Tree). Tree.node s (forest ts))
            (map_same (deep n rs w) (value rs w) xs
            (λ i k. let lower = (sheet.rows n s xs h e).lower i k in
            depth_same w n (suc (get_or xs i 0)) (get_or xs i 0) lower (omega arith) (omega arith)));
      }

  -- and there is no other
  pub value_single : (w : World) (v : ℕ → Tree) → Values rs w v → (n : ℕ) → n < length rs → v n ≡ value rs w n
  value_single w v values n h =
      solved_same v (value rs w) values.compound (value_is w).compound (λ m k e. values.name m k e ∙ sym (value_name rs w m e)) n h
