-- Classes by the numbers that a visit of all of them gave. Assumes nothing.
use Rattle.std.proofs.Common.{◌≡◌, ℕ, zero, suc, ◌<◌, List, map, length, get_or, sym, refl, ap, ◌∙◌, ap₂, inl, inr, arith}
use Rattle.std.proofs.lemmas.List.{get_or-map, length-map, ext_get_or}
use Rattle.std.proofs.lemmas.Bool.{cases_lt}
use Rattle.logic.specs.Trees.{Tree}
use Rattle.terms.specs.Sheets.{Row, row, arguments, Compound, Sheet}
use Rattle.terms.specs.Values.{forest, Solves}
use Rattle.classes.specs.Classes.{Respects, Closed, Congruent, Ordered, class, Lowest}
use Rattle.unify.specs.declared.Mark.{Mark}
use Rattle.unify.specs.Merging.{Coarser, Tops}
use Rattle.unify.specs.Visits.{mark, number, Entry}
use Rattle.unify.specs.Settling.{AllVisited, number_of}
use Rattle.unify.proofs.Lists.{over_of, map_places}

-- lists on which g agrees have one length, and g agrees at each place
pub map_agrees : (g : ℕ → ℕ) (xs ys : List ℕ) → map g xs ≡ map g ys → (length xs ≡ length ys) × ((i : ℕ) → i < length xs → g (get_or xs i 0) ≡ g (get_or ys i 0))
map_agrees g xs ys e =
    let long : length xs ≡ length ys = sym (length-map xs g) ∙ ap length e ∙ length-map ys g in (
      long,
      λ i l. sym (get_or-map g xs i 0 0 l) ∙ ap (λ (zs : List ℕ). get_or zs i 0) e ∙ get_or-map g ys i 0 0 (omega arith),
    )

over_same : (s r : ℕ) (xs ys : List ℕ) → Row.over s xs ≡ Row.over r ys → (s ≡ r) × (xs ≡ ys)
over_same s r xs ys e = (cc, cc)

name_over : (s : ℕ) (xs : List ℕ) → Row.name ≡ Row.over s xs → ⊥
name_over s xs e = let z : ◌≡◌ {A = ℕ} 0 1 = cc in omega arith

compound_over : (p : Row) (s : ℕ) (xs : List ℕ) → p ≡ Row.over s xs → Compound p
compound_over p s xs e = rw e tt

module _ (ar : List ℕ) (rs : List Row) (ts ks : List ℕ) (ms : List Mark) (Q : List Row) (order : Sheet ar Q)
    (lower : (x i : ℕ) → x < length rs → i < length (arguments (row rs x)) → get_or (arguments (row rs x)) i 0 < length rs)
    (lowest : Lowest (length rs) ts) (tops : Tops rs (class ts) ks) (closed : Closed rs (class ts) (class ts))
    (visited : AllVisited rs ts ks ms Q (length rs)) where
  abbrev f : ℕ → ℕ
  f = class ts

  abbrev g : ℕ → ℕ
  g = number_of ts ms

  below : (a : ℕ) → a < length rs → f a < length rs
  below a la = omega (arith, lowest.low a la)

  entry : (a : ℕ) → a < length rs → Entry rs f ks ms Q (f a) (g a)
  entry a la = visited.visited.done (f a) (g a) (below a la) (visited.all (f a) (below a la) (lowest.own a la))

  -- the head of a compound term's class
  record Head (a : ℕ) : Type 0 where
    h : ℕ
    reads : get_or ks (f a) 0 ≡ h
    term : h < length rs
    same : f h ≡ f a
    s : ℕ
    xs : List ℕ
    row_is : row rs h ≡ Row.over s xs

  head : (a : ℕ) → a < length rs → get_or ks (f a) 0 < length rs → Head a
  head a la small =
      let t = tops.some (f a) (below a la) (lowest.own a la) small in
      let o = over_of (row rs (get_or ks (f a) 0)) t.1 in
      record { h = get_or ks (f a) 0; reads = refl; term = small; same = t.0; s = o.0; xs = arguments (row rs (get_or ks (f a) 0)); row_is = o.1 }

  -- a class with a head has its number's row by the head
  head_row : (a : ℕ) (la : a < length rs) (small : get_or ks (f a) 0 < length rs) → row Q (g a) ≡ Row.over (head a la small).s (map g (head a la small).xs)
  unfolding head
  head_row a la small =
      let e = entry a la in
      let t = head a la small in
      let long : length e.numbers ≡ length (map g t.xs) = e.long small ∙ sym (length-map t.xs g) in
      e.compound t.s t.xs small t.row_is
      ∙ ap (Row.over t.s) (ext_get_or 0 e.numbers (map g t.xs) long
      (λ i l. let within : i < length t.xs = omega (arith, e.long small) in
      let at : mark ms (f (get_or t.xs i 0)) ≡ Mark.Done (get_or e.numbers i 0) = e.each i small within in
      sym (ap number at) ∙ sym (get_or-map g t.xs i 0 0 within)))

  -- the classes of lists on which f agrees have one number
  through : (xs ys : List ℕ) → map f xs ≡ map f ys → map g xs ≡ map g ys
  through xs ys e = let both = map_agrees f xs ys e in map_places g xs ys both.0 (λ i l. ap (λ (c : ℕ). number (mark ms c)) (both.1 i l))

  -- a compound term's number has its symbol over its arguments' numbers
  over_row : (a s : ℕ) (xs : List ℕ) → a < length rs → row rs a ≡ Row.over s xs → row Q (g a) ≡ Row.over s (map g xs)
  over_row a s xs la e =
      let small = tops.each a la (compound_over (row rs a) s xs e) in
      let t = head a la small in
      let both = over_same t.s s (map f t.xs) (map f xs) (closed t.h a t.s s t.xs xs t.term la t.same t.row_is e) in
      head_row a la small ∙ ap₂ Row.over both.0 (through t.xs xs both.1)

  pub number_coarser : Coarser (length rs) f g
  number_coarser a b la lb e = ap (λ (c : ℕ). number (mark ms c)) e

  pub number_closed : Closed rs g g
  number_closed a b s r xs ys la lb e p q = sym (over_row a s xs la p) ∙ ap (row Q) e ∙ over_row b r ys lb q

  pub number_congruent : Congruent rs g
  number_congruent a b s xs ys la lb p q e =
      order.once (g a) (g b) s (map g xs) (entry a la).within (entry b lb).within (over_row a s xs la p) (over_row b s ys lb q ∙ ap (Row.over s) (sym e))

  pub number_ordered : Ordered rs g
  number_ordered =
      record {
        rank = g;
        bound = λ a la. omega (arith, (entry a la).within, visited.count);
        level = λ a b la lb e. e;
        after = after;
      }
    where
      named : (a i : ℕ) (p : Row) → row rs a ≡ p → i < length (arguments p) → a < length rs → g (get_or (arguments p) i 0) < g a
      named a i Row.name e l la = absurd (omega arith)
      named a i (Row.over s xs) e l la =
          let w = order.rows (g a) s (map g xs) (entry a la).within (over_row a s xs la e) in
          omega (arith, w.lower i (omega (arith, length-map xs g)), get_or-map g xs i 0 0 l)

      after : (a i : ℕ) → a < length rs → i < length (arguments (row rs a)) → g (get_or (arguments (row rs a)) i 0) < g a
      after a i la l = named a i (row rs a) refl l la

  module _ (v : ℕ → Tree) (fits : Solves rs v) (respects : Respects (length rs) f v) where
    -- a term with a head has the head's tree
    head_tree : (a : ℕ) (la : a < length rs) (small : get_or ks (f a) 0 < length rs) → v a ≡ Tree.node (head a la small).s (forest (map v (head a la small).xs))
    head_tree a la small =
        let t = head a la small in
        respects a t.h la t.term (sym t.same) ∙ fits t.h t.s t.xs t.term t.row_is

    -- the arguments of a head have lower numbers
    argument_lower : (a : ℕ) (la : a < length rs) (small : get_or ks (f a) 0 < length rs) (i : ℕ) → i < length (head a la small).xs →
        (get_or (head a la small).xs i 0 < length rs) × (g (get_or (head a la small).xs i 0) < g a)
    unfolding head
    argument_lower a la small i l =
        let t = head a la small in
        let w = order.rows (g a) t.s (map g t.xs) (entry a la).within (head_row a la small) in
        (lower t.h i t.term l, omega (arith, w.lower i (omega (arith, length-map t.xs g)), get_or-map g t.xs i 0 0 l))

    one_number : (d a b : ℕ) → a < length rs → b < length rs → g a < d → g a ≡ g b → v a ≡ v b
    one_number zero a b la lb h e = absurd (omega arith)
    one_number (suc d) a b la lb h e =
        elim (cases_lt (get_or ks (f a) 0) (length rs)) [
          | inl small ↦ elim (cases_lt (get_or ks (f b) 0) (length rs)) [
            | inl too ↦
                let s = head a la small in
                let t = head b lb too in
                let both = over_same s.s t.s (map g s.xs) (map g t.xs) (sym (head_row a la small) ∙ ap (row Q) e ∙ head_row b lb too) in
                let places = map_agrees g s.xs t.xs both.1 in
                head_tree a la small
                ∙ ap₂ (λ (x : ℕ) (l : List Tree). Tree.node x (forest l)) both.0
                (map_places v s.xs t.xs places.0 (λ i l.
                let mine = argument_lower a la small i l in
                let other = argument_lower b lb too i (omega (arith, places.0)) in
                one_number d (get_or s.xs i 0) (get_or t.xs i 0) mine.0 other.0 (omega (arith, mine.1)) (places.1 i l)))
                ∙ sym (head_tree b lb too)
            | inr none ↦ absurd (name_over (head a la small).s (map g (head a la small).xs) (sym ((entry b lb).name none) ∙ ap (row Q) (sym e) ∙ head_row a la small))
          ]
          | inr none ↦ elim (cases_lt (get_or ks (f b) 0) (length rs)) [
            | inl too ↦ absurd (name_over (head b lb too).s (map g (head b lb too).xs) (sym ((entry a la).name none) ∙ ap (row Q) e ∙ head_row b lb too))
            | inr both ↦
                respects a b la lb (visited.visited.alone (f a) (f b) (g a) (below a la) (below b lb) (visited.all (f a) (below a la) (lowest.own a la))
                (visited.all (f b) (below b lb) (lowest.own b lb) ∙ ap Mark.Done (sym e)) ((entry a la).name none))
          ]
        ]

    pub number_sound : Respects (length rs) g v
    number_sound a b la lb e = one_number (suc (g a)) a b la lb (omega arith) e
