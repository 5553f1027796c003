-- What each way through a merge answers. Assumes nothing.
use Rattle.std.proofs.Common.{◌≡◌, ℕ, ◌+◌, ◌<◌, ◌≤◌, min, max, Bool, true, false, List, length, get_or, set, sym, refl, ap, ◌∙◌, subst, subst₂, arith}
use Rattle.logic.specs.Trees.{Tree}
use Rattle.terms.specs.Sheets.{row, Compound}
use Rattle.unify.specs.Parents.{Parents, Rooted, roots}
use Rattle.unify.specs.Merging.{Tops, Answer, Agree, alike, joined, Joining}
use Rattle.unify.proofs.Joins.{join_parents, join_fewer, join_rooted, join_tops, lower_less, of_both, found_joining}
use Rattle.unify.proofs.Merges.{answer_same, arguments_none, arguments_clash, arguments_next, terms_alone, terms_clash, terms_next}
use Rattle.sheet.specs.declared.rows.Term.{Term}
use Rattle.trees.specs.Terms.{rows, arguments_of, Orderly}
use Rattle.trees.specs.Merges.{Found, Merges}

-- an argument is a term
pub argument_term : (ts : List Term) → Orderly ts → (x i : ℕ) → x < length (rows ts) → i < length (arguments_of ts x) → get_or (arguments_of ts x) i 0 < length (rows ts)
argument_term ts terms x i lx l = omega (arith, terms.many, terms.lower x i (omega (arith, terms.many)) l)

-- the same merge of lists that are named otherwise
pub merge_along : (ts : List Term) (ps hs js qs os ks vs : List ℕ) (met : (ℕ → ℕ) → Type 0) (agrees : (ℕ → Tree) → Type 0) (r : Bool)
    → hs ≡ js → os ≡ qs → vs ≡ ks → Merges ts ps hs qs ks met agrees r → Merges ts ps js os vs met agrees r
merge_along ts ps hs js qs os ks vs met agrees r e f g merge =
    subst (λ (xs : List ℕ). Merges ts ps xs os vs met agrees r) e (subst₂ (λ (xs ys : List ℕ). Merges ts ps hs xs ys met agrees r) (sym f) (sym g) merge)

module _ (ts : List Term) (terms : Orderly ts) (ps hs : List ℕ) where
  -- the parents ps of as many terms as there are rows
  over : (qs : List ℕ) (f : ℕ → ℕ) → Rooted (length ts) qs f → Rooted (length (rows ts)) qs f
  over qs f rooted = subst (λ (n : ℕ). Rooted n qs f) (sym terms.many) rooted

  under : (qs : List ℕ) (f : ℕ → ℕ) → Rooted (length (rows ts)) qs f → Rooted (length ts) qs f
  under qs f rooted = subst (λ (n : ℕ). Rooted n qs f) terms.many rooted

  -- two terms, and those that stand for their classes
  module _ (os qs : List ℕ) (a b x y : ℕ) (parents : Parents (length ts) ps) (long : length hs ≡ length ts) (la : a < length ts) (lb : b < length ts)
      (first : Found (length ps) ps os a x) (second : Found (length os) os qs b y) where
    one : Found (length ts) ps os a x
    one = subst (λ (n : ℕ). Found n ps os a x) parents.long first

    two : Found (length ts) os qs b y
    two = subst (λ (n : ℕ). Found n os qs b y) one.climbs.parents.long second

    both : (f : ℕ → ℕ) → Rooted (length (rows ts)) ps f → Rooted (length ts) qs f × (x ≡ f a) × (y ≡ f b)
    both f rooted =
        let start = under ps f rooted in
        let next = (one.climbs.rooted f start).0 in
        ((two.climbs.rooted f next).0, one.root f start, two.root f next)

    pub merge_same : x ≡ y → Merges ts ps hs qs hs (λ f. f a ≡ f b) (λ v. v a ≡ v b) true
    merge_same same =
        record {
          parents = two.climbs.parents;
          fewer = omega (arith, one.climbs.many, two.climbs.many);
          answer = λ f rooted tops.
              let k = both f rooted in
              answer_same (rows ts) f qs hs a b (over qs f k.0) tops (sym k.1 ∙ same ∙ k.2);
        }

    module _ (apart : x ≡ y → ⊥) where
      -- the parents and heads after the join
      abbrev joined_parents : List ℕ
      joined_parents = set qs (max x y) (min x y)

      abbrev joined_heads : List ℕ
      joined_heads = set hs (min x y) (min (get_or hs (min x y) 0) (get_or hs (max x y) 0))

      within : (min x y < length ts) × (max x y < length ts)
      within = of_both (λ z. z < length ts) x y (omega (arith, one.climbs.low)) (omega (arith, two.climbs.low))

      owns : (get_or qs (min x y) 0 ≡ min x y) × (get_or qs (max x y) 0 ≡ max x y)
      owns = of_both (λ z. get_or qs z 0 ≡ z) x y (two.climbs.kept x one.own) two.own

      pub merge_parents : Parents (length ts) joined_parents
      merge_parents = join_parents (length ts) qs two.climbs.parents (min x y) (max x y) (lower_less x y apart) within.1

      pub merge_fewer : roots joined_parents < roots ps
      merge_fewer =
          omega (
            arith,
            one.climbs.many,
            two.climbs.many,
            join_fewer (length ts) qs two.climbs.parents (min x y) (max x y) (lower_less x y apart) within.1 owns.1,
          )

      module _ (f : ℕ → ℕ) (rooted : Rooted (length (rows ts)) ps f) (tops : Tops (rows ts) f hs) where
        abbrev g : ℕ → ℕ
        g = joined f (min x y) (max x y)

        mine : Rooted (length ts) qs f
        mine = (both f rooted).0

        join : Joining (length (rows ts)) f g a b
        join = found_joining (length (rows ts)) f a b x y (omega (arith, terms.many)) (omega (arith, terms.many)) (both f rooted).1 (both f rooted).2 apart

        joins_rooted : Rooted (length (rows ts)) joined_parents g
        joins_rooted =
            over joined_parents g (join_rooted (length ts) qs f two.climbs.parents mine (min x y) (max x y) (lower_less x y apart) within.1
            (mine.top (min x y) within.0 owns.0) (mine.top (max x y) within.1 owns.1))

        joins_tops : Tops (rows ts) g joined_heads
        joins_tops =
            join_tops (length ts) qs f two.climbs.parents mine (min x y) (max x y) (lower_less x y apart) within.1
            (mine.top (min x y) within.0 owns.0) (mine.top (max x y) within.1 owns.1) (rows ts) terms.many hs long tops

        -- a compound term of a class gives it a head
        headed : (c d z : ℕ) → c < length (rows ts) → f c ≡ f d → z ≡ f d → Compound (row (rows ts) c) → get_or hs z 0 < length (rows ts)
        headed c d z lc e at compound = omega (arith, tops.each c lc compound, ap (λ (k : ℕ). get_or hs k 0) (at ∙ sym e))

        -- and the head is a compound term of the class
        head : (d z : ℕ) → z < length ts → get_or qs z 0 ≡ z → z ≡ f d → get_or hs z 0 < length (rows ts)
            → (f (get_or hs z 0) ≡ f d) × Compound (row (rows ts) (get_or hs z 0))
        head d z lz own at small = let t = tops.some z (omega (arith, terms.many)) (mine.top z lz own) small in (t.0 ∙ at, t.1)

        left : get_or hs x 0 < length (rows ts) → (f (get_or hs x 0) ≡ f a) × Compound (row (rows ts) (get_or hs x 0))
        left small = head a x (omega (arith, one.climbs.low)) (two.climbs.kept x one.own) (both f rooted).1 small

        right : get_or hs y 0 < length (rows ts) → (f (get_or hs y 0) ≡ f b) × Compound (row (rows ts) (get_or hs y 0))
        right small = head b y (omega (arith, two.climbs.low)) two.own (both f rooted).2 small

        alone_left : length ts ≤ get_or hs x 0 → Answer (rows ts) f (λ h. h a ≡ h b) (λ v. v a ≡ v b) joined_parents joined_heads true
        alone_left none =
            terms_alone (rows ts) f g a b join joined_parents joined_heads joins_rooted joins_tops
            (λ c d lc ld e u p q. omega (arith, terms.many, headed c a x lc e (both f rooted).1 p))

        alone_right : length ts ≤ get_or hs y 0 → Answer (rows ts) f (λ h. h a ≡ h b) (λ v. v a ≡ v b) joined_parents joined_heads true
        alone_right none =
            terms_alone (rows ts) f g a b join joined_parents joined_heads joins_rooted joins_tops
            (λ c d lc ld e u p q. omega (arith, terms.many, headed d b y ld u (both f rooted).2 q))

      -- one of the classes has only names
      pub merge_left : length ts ≤ get_or hs x 0 → Merges ts ps hs joined_parents joined_heads (λ f. f a ≡ f b) (λ v. v a ≡ v b) true
      merge_left none =
          record { parents = merge_parents; fewer = omega (arith, merge_fewer); answer = λ f rooted tops. alone_left f rooted tops none }

      pub merge_right : length ts ≤ get_or hs y 0 → Merges ts ps hs joined_parents joined_heads (λ f. f a ≡ f b) (λ v. v a ≡ v b) true
      merge_right none =
          record { parents = merge_parents; fewer = omega (arith, merge_fewer); answer = λ f rooted tops. alone_right f rooted tops none }

      -- both have a compound term
      module _ (some : get_or hs x 0 < length ts) (too : get_or hs y 0 < length ts) where
        small : get_or hs x 0 < length (rows ts)
        small = omega (arith, terms.many)

        small_too : get_or hs y 0 < length (rows ts)
        small_too = omega (arith, terms.many)

        pub merge_unlike : alike (row (rows ts) (get_or hs x 0)) (row (rows ts) (get_or hs y 0)) ≡ false
            → Merges ts ps hs joined_parents joined_heads (λ f. f a ≡ f b) (λ v. v a ≡ v b) false
        merge_unlike unlike =
            record {
              parents = merge_parents;
              fewer = omega (arith, merge_fewer);
              answer = λ f rooted tops.
                  let l = left f rooted tops small in
                  let r = right f rooted tops small_too in
                  terms_clash (rows ts) f (g f rooted tops) a b (join f rooted tops) (argument_term ts terms) (get_or hs x 0) (get_or hs y 0) small small_too l.0 r.0 l.1 r.1
                  joined_parents joined_heads unlike;
            }

        pub merge_alike : alike (row (rows ts) (get_or hs x 0)) (row (rows ts) (get_or hs y 0)) ≡ true → (os ks : List ℕ) (r : Bool)
            → Merges ts joined_parents joined_heads os ks (Agree (arguments_of ts (get_or hs x 0)) (arguments_of ts (get_or hs y 0)) 0) (Agree (arguments_of ts (get_or hs x 0)) (arguments_of ts (get_or hs y 0)) 0) r
            → Merges ts ps hs os ks (λ f. f a ≡ f b) (λ v. v a ≡ v b) r
        merge_alike like os ks r rest =
            record {
              parents = rest.parents;
              fewer = omega (arith, merge_fewer, rest.fewer);
              answer = λ f rooted tops.
                  let l = left f rooted tops small in
                  let u = right f rooted tops small_too in
                  terms_next (rows ts) f (g f rooted tops) a b (join f rooted tops) (argument_term ts terms) (get_or hs x 0) (get_or hs y 0) small small_too l.0 u.0 l.1 u.1
                  os ks r like (rest.answer (g f rooted tops) (joins_rooted f rooted tops) (joins_tops f rooted tops));
            }

  -- the arguments of two compound terms from a place on
  module _ (xs ys : List ℕ) (place : ℕ) where
    pub merge_none : Parents (length ts) ps → length xs ≤ place → Merges ts ps hs ps hs (Agree xs ys place) (Agree xs ys place) true
    merge_none parents past =
        record { parents = parents; fewer = omega arith; answer = λ f rooted tops. arguments_none (rows ts) f ps hs xs ys place past rooted tops }

    module _ (x y : ℕ) (left : x ≡ get_or xs place 0) (right : y ≡ get_or ys place 0) (within : place < length xs) (os ks : List ℕ) where
      pub merge_clash : Merges ts ps hs os ks (λ f. f x ≡ f y) (λ v. v x ≡ v y) false → Merges ts ps hs os ks (Agree xs ys place) (Agree xs ys place) false
      merge_clash merge =
          record {
            parents = merge.parents;
            fewer = merge.fewer;
            answer = λ f rooted tops. arguments_clash (rows ts) f os ks os ks xs ys x y place false left right within (merge.answer f rooted tops) refl;
          }

      pub merge_next : Merges ts ps hs os ks (λ f. f x ≡ f y) (λ v. v x ≡ v y) true → x < length ts → y < length ts → (qs ms : List ℕ) (r : Bool)
          → Merges ts os ks qs ms (Agree xs ys (place + 1)) (Agree xs ys (place + 1)) r → Merges ts ps hs qs ms (Agree xs ys place) (Agree xs ys place) r
      merge_next merge lx ly qs ms r rest =
          record {
            parents = rest.parents;
            fewer = omega (arith, merge.fewer, rest.fewer);
            answer = λ f rooted tops.
                let first = (merge.answer f rooted tops).brought refl in
                arguments_next (rows ts) f qs ms xs ys x y place r left right within (omega (arith, terms.many)) (omega (arith, terms.many)) os ks first
                (rest.answer first.g first.rooted first.tops);
          }
