-- The ways through a merge, of layers: l before it, n when the terms x and y were found to stand for the classes, u when they were
-- joined. Assumes nothing.
use Rattle.std.proofs.Common.{◌≡◌, ℕ, ◌<◌, ◌≤◌, min, max, Bool, true, false, List, length, get_or, set, vec_items, sym, ap, ◌∙◌, subst, ap₂, subst₂, arith}
use Rattle.std.proofs.lemmas.List.{get_or_read}
use Rattle.terms.specs.Sheets.{row}
use Rattle.unify.specs.Parents.{Parents, roots}
use Rattle.unify.specs.Merging.{Agree, alike}
use Rattle.sheet.specs.declared.rows.Term.{Term}
use Rattle.trees.specs.Terms.{Orderly, rows, arguments_of}
use Rattle.trees.specs.Merges.{Merges, Finds}
use Rattle.trees.specs.declared.layer.Layer.{Layer}
use Rattle.trees.proofs.Layering.{head_long}
use Rattle.trees.proofs.Ways.{merge_along, merge_same, merge_parents, merge_fewer, merge_left, merge_right, merge_unlike, merge_alike}

module _ (ts : List Term) (terms : Orderly ts) (l m n : Layer) (a b x y : ℕ) (parents : Parents (length ts) (vec_items l.table)) (la : a < length ts) (lb : b < length ts)
    (first : Finds l m a x) (second : Finds m n b y) where
  abbrev hs : List ℕ
  hs = vec_items n.heads

  kept : hs ≡ vec_items l.heads
  kept = second.heads ∙ first.heads

  long : length hs ≡ length ts
  long = ap length kept ∙ head_long l ∙ parents.long

  -- from the layer before
  from : (us ks : List ℕ) (r : Bool) → Merges ts (vec_items l.table) hs us ks (λ f. f a ≡ f b) (λ v. v a ≡ v b) r
      → Merges ts (vec_items l.table) (vec_items l.heads) us ks (λ f. f a ≡ f b) (λ v. v a ≡ v b) r
  from us ks r = subst (λ (xs : List ℕ). Merges ts (vec_items l.table) xs us ks (λ f. f a ≡ f b) (λ v. v a ≡ v b) r) kept

  pub unite_same : x ≡ y → Merges ts (vec_items l.table) (vec_items l.heads) (vec_items n.table) hs (λ f. f a ≡ f b) (λ v. v a ≡ v b) true
  unite_same same =
      from (vec_items n.table) hs true
      (merge_same ts terms (vec_items l.table) hs (vec_items m.table) (vec_items n.table) a b x y parents long la lb first.found second.found same)

  module _ (apart : x ≡ y → ⊥) (u : Layer) (table : vec_items u.table ≡ set (vec_items n.table) (max x y) (min x y))
      (heads : vec_items u.heads ≡ set hs (min x y) (min (get_or hs (min x y) 0) (get_or hs (max x y) 0))) where
    pub unite_parents : Parents (length ts) (vec_items u.table)
    unite_parents =
        subst (λ (us : List ℕ). Parents (length ts) us) (sym table)
        (merge_parents ts terms (vec_items l.table) hs (vec_items m.table) (vec_items n.table) a b x y parents long la lb first.found second.found apart)

    pub unite_fewer : roots (vec_items u.table) < roots (vec_items l.table)
    unite_fewer =
        subst (λ (us : List ℕ). roots us < roots (vec_items l.table)) (sym table)
        (merge_fewer ts terms (vec_items l.table) hs (vec_items m.table) (vec_items n.table) a b x y parents long la lb first.found second.found apart)

    -- the heads h and k that were read at x and y
    module _ (h k : ℕ) (left : h ≡ get_or hs x h) (right : k ≡ get_or hs y k) where
      left_head : h ≡ get_or hs x 0
      left_head = get_or_read hs x h (omega (arith, long, first.found.climbs.low)) left 0

      right_head : k ≡ get_or hs y 0
      right_head = get_or_read hs y k (omega (arith, long, second.found.climbs.low)) right 0

      likes : (r : Bool) → alike (row (rows ts) h) (row (rows ts) k) ≡ r → alike (row (rows ts) (get_or hs x 0)) (row (rows ts) (get_or hs y 0)) ≡ r
      likes r e = ap₂ (λ (p q : ℕ). alike (row (rows ts) p) (row (rows ts) q)) (sym left_head) (sym right_head) ∙ e

      joined : (r : Bool)
          → Merges ts (vec_items l.table) hs (set (vec_items n.table) (max x y) (min x y)) (set hs (min x y) (min (get_or hs (min x y) 0) (get_or hs (max x y) 0)))
          (λ f. f a ≡ f b) (λ v. v a ≡ v b) r
          → Merges ts (vec_items l.table) (vec_items l.heads) (vec_items u.table) (vec_items u.heads) (λ f. f a ≡ f b) (λ v. v a ≡ v b) r
      joined r = merge_along ts (vec_items l.table) hs (vec_items l.heads) _ _ _ _ (λ f. f a ≡ f b) (λ v. v a ≡ v b) r kept table heads

      pub unite_left : length ts ≤ h → Merges ts (vec_items l.table) (vec_items l.heads) (vec_items u.table) (vec_items u.heads) (λ f. f a ≡ f b) (λ v. v a ≡ v b) true
      unite_left none =
          joined true
          (merge_left ts terms (vec_items l.table) hs (vec_items m.table) (vec_items n.table) a b x y parents long la lb first.found second.found apart (omega (arith, left_head)))

      pub unite_right : length ts ≤ k → Merges ts (vec_items l.table) (vec_items l.heads) (vec_items u.table) (vec_items u.heads) (λ f. f a ≡ f b) (λ v. v a ≡ v b) true
      unite_right none =
          joined true
          (merge_right ts terms (vec_items l.table) hs (vec_items m.table) (vec_items n.table) a b x y parents long la lb first.found second.found apart (omega (arith, right_head)))

      module _ (some : h < length ts) (too : k < length ts) where
        pub unite_unlike : alike (row (rows ts) h) (row (rows ts) k) ≡ false
            → Merges ts (vec_items l.table) (vec_items l.heads) (vec_items u.table) (vec_items u.heads) (λ f. f a ≡ f b) (λ v. v a ≡ v b) false
        unite_unlike unlike =
            joined false
            (merge_unlike ts terms (vec_items l.table) hs (vec_items m.table) (vec_items n.table) a b x y parents long la lb first.found second.found apart
            (omega (arith, left_head)) (omega (arith, right_head)) (likes false unlike))

        pub unite_alike : alike (row (rows ts) h) (row (rows ts) k) ≡ true → (us ks : List ℕ) (r : Bool)
            → Merges ts (vec_items u.table) (vec_items u.heads) us ks (Agree (arguments_of ts h) (arguments_of ts k) 0) (Agree (arguments_of ts h) (arguments_of ts k) 0) r
            → Merges ts (vec_items l.table) (vec_items l.heads) us ks (λ f. f a ≡ f b) (λ v. v a ≡ v b) r
        unite_alike like us ks r rest =
            from us ks r
            (merge_alike ts terms (vec_items l.table) hs (vec_items m.table) (vec_items n.table) a b x y parents long la lb first.found second.found apart
            (omega (arith, left_head)) (omega (arith, right_head)) (likes true like) us ks r
            (subst₂ (λ (ps js : List ℕ). Merges ts ps js us ks (Agree (arguments_of ts (get_or hs x 0)) (arguments_of ts (get_or hs y 0)) 0) (Agree (arguments_of ts (get_or hs x 0)) (arguments_of ts (get_or hs y 0)) 0) r) table heads
            (subst₂ (λ (p q : ℕ). Merges ts (vec_items u.table) (vec_items u.heads) us ks (Agree (arguments_of ts p) (arguments_of ts q) 0) (Agree (arguments_of ts p) (arguments_of ts q) 0) r)
            left_head right_head rest)))
