-- The trees that a settled table gives its classes: they fit the rows, and two classes have two of them. Assumes nothing.
use Rattle.std.proofs.Common.{◌≡◌, ℕ, zero, suc, ◌+◌, ◌*◌, ◌<◌, ◌≤◌, true, ◌&&◌, ltb, ◌⊎◌, List, [], ◌∷◌, map, length, get_or, sym, refl, ap, ◌∙◌, subst, ap₂, inl, inr, mul-le-mul_right, arith}
use native.Mathlib.Nat.{eq_of_mul-eq-mul_right}
use Rattle.std.proofs.lemmas.Bool.{cases_lt, lt-ltb, le-ltb, eq-eqb, and_from, not_from_false, cond-true}
use Rattle.logic.specs.Trees.{Tree, tower}
use Rattle.logic.specs.declared.Equation.{Equation}
use Rattle.logic.proofs.Towers.{tower_same}
use Rattle.groups.specs.Tables.{leads}
use Rattle.groups.proofs.Counts.{tally_same}
use Rattle.terms.specs.Sheets.{Row, row, arguments, Sheet}
use Rattle.terms.specs.Values.{forest, Solves, grown}
use Rattle.terms.proofs.Lists.{map_same, map_through, forest_same}
use Rattle.terms.proofs.Rows.{row_cases, name_bare, over_compound}
use Rattle.classes.specs.Classes.{class, Settled}
use Rattle.classes.specs.Worlds.{unbound, head_row, free_group, told_tree, head_written}

-- i times N is not k more than j times N, where k is below N, unless k is 0 and j is not
apart : (N i j k : ℕ) → i * N ≡ k + j * N → k < N → 0 < i → (j ≡ 0) ⊎ (0 < k) → ⊥
apart N i j k e h positive some =
    elim (cases_lt j i) [
      | inl less ↦ let m : suc j * N ≤ i * N = mul-le-mul_right N less in omega arith
      | inr more ↦
          let m : i * N ≤ j * N = mul-le-mul_right N more in
          elim some [
            | inl none ↦ omega arith
            | inr few ↦ omega arith
          ]
    ]

-- terms of one class have one tree
pub told_same : (rs : List Row) (ls hs : List ℕ) (d a b : ℕ) → class ls a ≡ class ls b → told_tree rs ls hs d a ≡ told_tree rs ls hs d b
told_same rs ls hs zero a b e = refl
told_same rs ls hs (suc d) a b e = cc

module _ (ar : List ℕ) (rs : List Row) (es : List Equation) (ls hs : List ℕ) (sheet : Sheet ar rs) (settled : Settled rs es ls hs) where
  abbrev tree : ℕ → Tree
  tree a = told_tree rs ls hs (length rs) a

  abbrev head : ℕ → ℕ
  head a = get_or hs (class ls a) 0

  abbrev rank : ℕ → ℕ
  rank = settled.ordered.rank

  -- the class of a term is a term
  pub class_below : (a : ℕ) → a < length rs → class ls a < length rs
  class_below a h = omega (arith, settled.lowest.low a h)

  -- the head of a class is of that class
  pub head_class : (a : ℕ) → a < length rs → head a < length rs → class ls (head a) ≡ class ls a
  head_class a h k = (settled.heads.some (class ls a) (class_below a h) k).0

  -- a class with no head has only names
  pub headless_name : (a : ℕ) → a < length rs → length rs ≤ head a → row rs a ≡ Row.name
  headless_name a h k =
      elim (row_cases (row rs a)) [
        | inl name ↦ name
        | inr compound ↦ absurd (omega (arith, settled.heads.each a h compound))
      ]

  headless : (a : ℕ) → a < length rs → head_row rs ls hs a ≡ Row.name → length rs ≤ head a
  headless a h e =
      elim (cases_lt (head a) (length rs)) [
        | inl k ↦
            let name : row rs (head a) ≡ Row.name = sym (cond-true (ltb (head a) (length rs)) (row rs (head a)) Row.name (lt-ltb (head a) (length rs) k)) ∙ e in
            absurd (name_bare (row rs (head a)) name (settled.heads.some (class ls a) (class_below a h) k).1)
        | inr k ↦ k
      ]

  -- the arguments of a head are terms of lower rank
  argument_rank : (a s : ℕ) (xs : List ℕ) (i : ℕ) → a < length rs → row rs a ≡ Row.over s xs → i < length xs → rank (get_or xs i 0) < rank a
  argument_rank a s xs i h e =
      subst (λ (r : Row). i < length (arguments r) → rank (get_or (arguments r) i 0) < rank a) e (settled.ordered.after a i h)

  argument_below : (a s : ℕ) (xs : List ℕ) (i : ℕ) → a < length rs → row rs a ≡ Row.over s xs → i < length xs → get_or xs i 0 < length rs
  argument_below a s xs i h e k = omega (arith, (sheet.rows a s xs h e).lower i k)

  head_argument : (a s : ℕ) (xs : List ℕ) (i : ℕ) → a < length rs → head_row rs ls hs a ≡ Row.over s xs → i < length xs
      → (get_or xs i 0 < length rs) × (rank (get_or xs i 0) < rank a)
  head_argument a s xs i h e k =
      let written = head_written rs ls hs a s xs e in
      let level : rank (head a) ≡ rank a = settled.ordered.level (head a) a written.0 h (head_class a h written.0) in
      (argument_below (head a) s xs i written.0 written.1 k, omega (arith, argument_rank (head a) s xs i written.0 written.1 k))

  -- the depth does not matter, from the rank on
  depth_same : (d k a : ℕ) → a < length rs → rank a < d → rank a < k → told_tree rs ls hs d a ≡ told_tree rs ls hs k a
  depth_same zero k a h i j = absurd (omega arith)
  depth_same (suc d) zero a h i j = absurd (omega arith)
  depth_same (suc d) (suc k) a h i j = by_row (λ x l m n. depth_same d k x l m n) (head_row rs ls hs a) refl
    where
      by_row : ((x : ℕ) → x < length rs → rank x < d → rank x < k → told_tree rs ls hs d x ≡ told_tree rs ls hs k x) → (r : Row)
          → head_row rs ls hs a ≡ r
          → grown (told_tree rs ls hs d) (tower (free_group rs ls hs a * length rs)) r
          ≡ grown (told_tree rs ls hs k) (tower (free_group rs ls hs a * length rs)) r
      by_row before Row.name e = refl
      by_row before (Row.over s xs) e =
          ap (λ (ts : List Tree). Tree.node s (forest ts))
          (map_same (told_tree rs ls hs d) (told_tree rs ls hs k) xs
          (λ n l. let lower = head_argument a s xs n h e l in before (get_or xs n 0) lower.0 (omega arith) (omega arith)))

  tree_grown : (a : ℕ) → a < length rs → tree a ≡ grown tree (tower (free_group rs ls hs a * length rs)) (head_row rs ls hs a)
  tree_grown a h =
      let small = settled.ordered.bound a h in
      depth_same (length rs) (suc (length rs)) a h small (omega arith)

  -- a class with no head has the tower of its group, and any other has its head's tree
  pub tree_tower : (a : ℕ) → a < length rs → head_row rs ls hs a ≡ Row.name → tree a ≡ tower (free_group rs ls hs a * length rs)
  tree_tower a h e = tree_grown a h ∙ ap (grown tree (tower (free_group rs ls hs a * length rs))) e

  tree_head : (a s : ℕ) (xs : List ℕ) → a < length rs → head_row rs ls hs a ≡ Row.over s xs → tree a ≡ Tree.node s (forest (map tree xs))
  tree_head a s xs h e = tree_grown a h ∙ ap (grown tree (tower (free_group rs ls hs a * length rs))) e

  -- the trees fit the rows
  pub tree_solves : Solves rs tree
  tree_solves n s xs h e = by_row (head_row rs ls hs n) refl
    where
      by_row : (r : Row) → head_row rs ls hs n ≡ r → tree n ≡ Tree.node s (forest (map tree xs))
      by_row Row.name f =
          absurd (name_bare (row rs n) (headless_name n h (headless n h f)) (over_compound (row rs n) s xs e))
      by_row (Row.over r ys) f =
          let written = head_written rs ls hs n r ys f in
          let closed : Row.over s (map (class ls) xs) ≡ Row.over r (map (class ls) ys) =
          settled.closed n (head n) s r xs ys h written.0 (sym (head_class n h written.0)) e written.1 in
          let symbol : r ≡ s = cc in
          let classes : map (class ls) ys ≡ map (class ls) xs = cc in
          let mapped : map tree ys ≡ map tree xs =
          map_through (class ls) tree ys xs (λ i l m. told_same rs ls hs (length rs) (get_or ys i 0) (get_or xs i 0)) classes in
          tree_head n r ys h f ∙ ap₂ (λ (u : ℕ) (ts : List Tree). Tree.node u (forest ts)) symbol mapped

  -- a tower among the trees is a few steps over the tower of a group, or over base
  record Chain (a h : ℕ) : Type 0 where
    steps : ℕ
    from : ℕ
    is : h ≡ steps + from * length rs
    few : steps ≤ rank a
    some : (s : ℕ) (xs : List ℕ) → head_row rs ls hs a ≡ Row.over s xs → (from ≡ 0) ⊎ (0 < steps)

  chain : (d a h : ℕ) → a < length rs → rank a < d → tree a ≡ tower h → Chain a h
  chain zero a h l i e = absurd (omega arith)
  chain (suc d) a h l i e = by_row (λ x k m j f. chain d x k m j f) (head_row rs ls hs a) refl h e
    where
      by_row : ((x k : ℕ) → x < length rs → rank x < d → tree x ≡ tower k → Chain x k) → (r : Row) → head_row rs ls hs a ≡ r
          → (h : ℕ) → tree a ≡ tower h → Chain a h
      by_row below Row.name f h e =
          record {
            steps = 0;
            from = free_group rs ls hs a;
            is =
                let same : h ≡ free_group rs ls hs a * length rs =
                tower_same h (free_group rs ls hs a * length rs) (sym e ∙ tree_tower a l f) in
                omega arith;
            few = omega arith;
            some = λ s xs g. let z : ◌≡◌ {A = ℕ} 0 1 = cc in absurd (omega arith);
          }
      by_row below (Row.over s xs) f zero e = record { steps = 0; from = 0; is = omega arith; few = omega arith; some = λ s xs g. inl refl }
      by_row below (Row.over s []) f (suc h) e =
          let here : tree a ≡ Tree.node s (forest (map tree [])) = tree_head a s [] l f in
          let z : ◌≡◌ {A = ℕ} 0 1 = cc in
          absurd (omega arith)
      by_row below (Row.over s (x ∷ [])) f (suc h) e =
          let here : tree a ≡ Tree.node s (forest (map tree (x ∷ []))) = tree_head a s (x ∷ []) l f in
          let inner : tree x ≡ tower h = cc in
          let lower = head_argument a s (x ∷ []) 0 l f (omega arith) in
          let c = below x h lower.0 (omega (arith, lower.1)) inner in
          record {
            steps = suc c.steps;
            from = c.from;
            is = omega (arith, c.is);
            few = omega (arith, c.few, lower.1);
            some = λ s xs g. inr (omega arith);
          }
      by_row below (Row.over s (x ∷ (y ∷ ys))) f (suc h) e =
          let here : tree a ≡ Tree.node s (forest (map tree (x ∷ (y ∷ ys)))) = tree_head a s (x ∷ (y ∷ ys)) l f in
          let z : ◌≡◌ {A = ℕ} 0 1 = cc in
          absurd (omega arith)

  -- no class with a head has the tree of one without
  mixed : (a b : ℕ) → a < length rs → b < length rs → (s : ℕ) (xs : List ℕ) → head_row rs ls hs a ≡ Row.over s xs
      → head_row rs ls hs b ≡ Row.name → tree a ≡ tree b → ⊥
  mixed a b h k s xs p q e =
      let c = chain (suc (rank a)) a (free_group rs ls hs b * length rs) h (omega arith) (e ∙ tree_tower b k q) in
      apart (length rs) (free_group rs ls hs b) c.from c.steps c.is (omega (arith, c.few, settled.ordered.bound a h)) (omega arith) (c.some s xs p)

  -- classes without heads have two towers
  leader_passes : (a : ℕ) → a < length rs → length rs ≤ head a → (leads ls (class ls a) && unbound rs ls hs (class ls a)) ≡ true
  leader_passes a h k =
      let own : class ls (class ls a) ≡ class ls a = settled.lowest.own a h in
      let still : length rs ≤ head (class ls a) = subst (λ (c : ℕ). length rs ≤ get_or hs c 0) (sym own) k in
      and_from (leads ls (class ls a)) (unbound rs ls hs (class ls a)) (eq-eqb (class ls (class ls a)) (class ls a) own)
      (not_from_false (ltb (head (class ls a)) (length rs)) (le-ltb (head (class ls a)) (length rs) still))

  headless_apart : (a b : ℕ) → a < length rs → b < length rs → head_row rs ls hs a ≡ Row.name → head_row rs ls hs b ≡ Row.name
      → tree a ≡ tree b → class ls a ≡ class ls b
  headless_apart a b h k p q e =
      let heights : free_group rs ls hs a * length rs ≡ free_group rs ls hs b * length rs =
      tower_same (free_group rs ls hs a * length rs) (free_group rs ls hs b * length rs) (sym (tree_tower a h p) ∙ e ∙ tree_tower b k q) in
      let groups : free_group rs ls hs a ≡ free_group rs ls hs b =
      eq_of_mul-eq-mul_right (length rs) (omega arith) (free_group rs ls hs a) (free_group rs ls hs b) heights in
      tally_same (λ m. leads ls m && unbound rs ls hs m) (class ls a) (class ls b)
      (leader_passes a h (headless a h p)) (leader_passes b k (headless b k q)) (omega arith)

  deep_apart : (d a b : ℕ) → a < length rs → b < length rs → rank a < d → tree a ≡ tree b → class ls a ≡ class ls b
  deep_apart zero a b h k i e = absurd (omega arith)
  deep_apart (suc d) a b h k i e = by_row (λ x y l m n f. deep_apart d x y l m n f) (head_row rs ls hs a) (head_row rs ls hs b) refl refl
    where
      by_row : ((x y : ℕ) → x < length rs → y < length rs → rank x < d → tree x ≡ tree y → class ls x ≡ class ls y) → (q r : Row)
          → head_row rs ls hs a ≡ q → head_row rs ls hs b ≡ r → class ls a ≡ class ls b
      by_row below Row.name Row.name f g = headless_apart a b h k f g e
      by_row below Row.name (Row.over r ys) f g = absurd (mixed b a k h r ys g f (sym e))
      by_row below (Row.over s xs) Row.name f g = absurd (mixed a b h k s xs f g e)
      by_row below (Row.over s xs) (Row.over r ys) f g =
          let left : tree a ≡ Tree.node s (forest (map tree xs)) = tree_head a s xs h f in
          let right : tree b ≡ Tree.node r (forest (map tree ys)) = tree_head b r ys k g in
          let symbol : r ≡ s = cc in
          let forests : forest (map tree xs) ≡ forest (map tree ys) = cc in
          let arguments_same : map (class ls) xs ≡ map (class ls) ys =
          map_through tree (class ls) xs ys
          (λ n l m. let lower = head_argument a s xs n h f l in
          below (get_or xs n 0) (get_or ys n 0) lower.0 (head_argument b r ys n k g m).0 (omega (arith, lower.1)))
          (forest_same (map tree xs) (map tree ys) forests) in
          let one = head_written rs ls hs a s xs f in
          let two = head_written rs ls hs b r ys g in
          sym (head_class a h one.0)
          ∙ settled.congruent (head a) (head b) s xs ys one.0 two.0 one.1 (two.1 ∙ ap (λ (u : ℕ). Row.over u ys) symbol) arguments_same
          ∙ head_class b k two.0

  -- terms with one tree are of one class
  pub tree_apart : (a b : ℕ) → a < length rs → b < length rs → tree a ≡ tree b → class ls a ≡ class ls b
  tree_apart a b h k e = deep_apart (suc (rank a)) a b h k (omega arith) e
