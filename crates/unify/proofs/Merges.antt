-- What merging two terms, or their arguments, answers. Assumes nothing.
use Rattle.std.proofs.Common.{◌≡◌, ℕ, ◌+◌, ◌<◌, ◌≤◌, Bool, true, false, List, map, length, get_or, sym, ap, ◌∙◌, ap₂, inl, inr, arith}
use Rattle.std.proofs.lemmas.Bool.{cases_eq}
use Rattle.logic.specs.Trees.{Tree}
use Rattle.terms.specs.Sheets.{Row, row, arguments, Compound}
use Rattle.terms.specs.Values.{forest, Solves}
use Rattle.classes.specs.Classes.{Respects, Closed}
use Rattle.unify.specs.Parents.{Rooted}
use Rattle.unify.specs.Merging.{Coarser, Tops, Merged, Brought, Answer, Agree, alike, Joining}
use Rattle.unify.proofs.Lists.{never, forest_places, map_places, over_of, alike_yes, alike_no}

pub never_false : {A : Type 0} → true ≡ false → A
never_false e = never (sym e)

merged_trans : (rs : List Row) (f g h : ℕ → ℕ) → Merged rs f g → Merged rs g h → Merged rs f h
merged_trans rs f g h p q =
    record {
      coarser = λ a b la lb e. q.coarser a b la lb (p.coarser a b la lb e);
      closes = λ w finer k. q.closes w finer (p.closes w (λ a b la lb e. finer a b la lb (q.coarser a b la lb e)) k);
    }

module _ (rs : List Row) (f : ℕ → ℕ) (qs ks : List ℕ) where
  -- the terms were of one class
  pub answer_same : (a b : ℕ) → Rooted (length rs) qs f → Tops rs f ks → f a ≡ f b → Answer rs f (λ g. g a ≡ g b) (λ v. v a ≡ v b) qs ks true
  answer_same a b rooted tops e =
      record {
        brought = λ _.
            record {
              g = f;
              rooted = rooted;
              tops = tops;
              merged = record { coarser = λ _ _ _ _ h. h; closes = λ _ _ k. k };
              meets = e;
              sound = λ v fits respects agree. respects;
            };
        clash = λ no. never_false no;
      }

  -- there are no arguments from the place on
  pub arguments_none : (xs ys : List ℕ) (at : ℕ) → length xs ≤ at → Rooted (length rs) qs f → Tops rs f ks → Answer rs f (Agree xs ys at) (Agree xs ys at) qs ks true
  arguments_none xs ys at past rooted tops =
      record {
        brought = λ _.
            record {
              g = f;
              rooted = rooted;
              tops = tops;
              merged = record { coarser = λ _ _ _ _ h. h; closes = λ _ _ k. k };
              meets = λ i from l. absurd (omega arith);
              sound = λ v fits respects agree. respects;
            };
        clash = λ no. never_false no;
      }

  -- the arguments at the place clash
  pub arguments_clash : (ps hs : List ℕ) (xs ys : List ℕ) (x y at : ℕ) (p : Bool) → x ≡ get_or xs at 0 → y ≡ get_or ys at 0 → at < length xs →
      Answer rs f (λ g. g x ≡ g y) (λ v. v x ≡ v y) ps hs p → p ≡ false → Answer rs f (Agree xs ys at) (Agree xs ys at) qs ks false
  arguments_clash ps hs xs ys x y at p left right l answer fails =
      record {
        brought = λ no. never no;
        clash = λ _ v fits respects agree. answer.clash fails v fits respects (ap v left ∙ agree at (omega arith) l ∙ sym (ap v right));
      }

  -- the arguments at the place are brought together, and then those after it
  pub arguments_next : (xs ys : List ℕ) (x y at : ℕ) (r : Bool) → x ≡ get_or xs at 0 → y ≡ get_or ys at 0 → at < length xs → x < length rs → y < length rs →
      (ps hs : List ℕ) (first : Brought rs f (λ g. g x ≡ g y) (λ v. v x ≡ v y) ps hs) → Answer rs first.g (Agree xs ys (at + 1)) (Agree xs ys (at + 1)) qs ks r →
      Answer rs f (Agree xs ys at) (Agree xs ys at) qs ks r
  arguments_next xs ys x y at r left right l lx ly ps hs first rest =
      record {
        brought = λ yes.
            let more = rest.brought yes in
            record {
              g = more.g;
              rooted = more.rooted;
              tops = more.tops;
              merged = merged_trans rs f first.g more.g first.merged more.merged;
              meets = λ i from within. meets more.g more.merged.coarser more.meets i from within;
              sound = λ v fits respects agree. more.sound v fits (first.sound v fits respects (here v agree)) (λ i from within. agree i (omega arith) within);
            };
        clash = λ no v fits respects agree. rest.clash no v fits (first.sound v fits respects (here v agree)) (λ i from within. agree i (omega arith) within);
      }
    where
      here : (v : ℕ → Tree) → Agree xs ys at v → v x ≡ v y
      here v agree = ap v left ∙ agree at (omega arith) l ∙ sym (ap v right)

      meets : (g : ℕ → ℕ) → Coarser (length rs) first.g g → Agree xs ys (at + 1) g → Agree xs ys at g
      meets g coarser after i from within =
          elim (cases_eq i at) [
            | inl same ↦
                let xi : x ≡ get_or xs i 0 = left ∙ ap (λ (j : ℕ). get_or xs j 0) (sym same) in
                let yi : y ≡ get_or ys i 0 = right ∙ ap (λ (j : ℕ). get_or ys j 0) (sym same) in
                sym (ap g xi) ∙ coarser x y lx ly first.meets ∙ ap g yi
            | inr other ↦ after i (omega arith) within
          ]

-- two classes made one
module _ (rs : List Row) (f g : ℕ → ℕ) (a b : ℕ) (join : Joining (length rs) f g a b) where
  join_respects : (v : ℕ → Tree) → Respects (length rs) f v → v a ≡ v b → Respects (length rs) g v
  join_respects v respects e c d lc ld h =
      elim (join.cases c d lc ld h) [
        | inl p ↦ respects c d lc ld p
        | inr o ↦ elim o [
          | inl p ↦ respects c a lc join.left p.0 ∙ e ∙ respects b d join.right ld (sym p.1)
          | inr p ↦ respects c b lc join.right p.0 ∙ sym e ∙ respects a d join.left ld (sym p.1)
        ]
      ]

  -- what closes f, and what the two classes owe one another, closes g
  join_closed : (w : ℕ → ℕ) → Closed rs f w →
      ((c d s r : ℕ) (xs ys : List ℕ) → c < length rs → d < length rs → f c ≡ f a → f d ≡ f b →
      row rs c ≡ Row.over s xs → row rs d ≡ Row.over r ys → Row.over s (map w xs) ≡ Row.over r (map w ys)) →
      Closed rs g w
  join_closed w k owed c d s r xs ys lc ld h e u =
      elim (join.cases c d lc ld h) [
        | inl p ↦ k c d s r xs ys lc ld p e u
        | inr o ↦ elim o [
          | inl p ↦ owed c d s r xs ys lc ld p.0 p.1 e u
          | inr p ↦ sym (owed d c r s ys xs ld lc p.1 p.0 u e)
        ]
      ]

  -- one of the two classes has only names
  pub terms_alone : (qs ks : List ℕ) → Rooted (length rs) qs g → Tops rs g ks →
      ((c d : ℕ) → c < length rs → d < length rs → f c ≡ f a → f d ≡ f b → Compound (row rs c) → Compound (row rs d) → ⊥) →
      Answer rs f (λ h. h a ≡ h b) (λ v. v a ≡ v b) qs ks true
  terms_alone qs ks rooted tops apart =
      record {
        brought = λ _.
            record {
              g = g;
              rooted = rooted;
              tops = tops;
              merged = record {
                coarser = join.coarser;
                closes = λ w _ k. join_closed w k (λ c d s r xs ys lc ld p q e u. absurd (apart c d lc ld p q (compound c s xs e) (compound d r ys u)));
              };
              meets = join.met;
              sound = λ v fits respects e. join_respects v respects e;
            };
        clash = λ no. never_false no;
      }
    where
      compound : (c s : ℕ) (xs : List ℕ) → row rs c ≡ Row.over s xs → Compound (row rs c)
      compound c s xs e = rw e tt

  -- both have a compound term
  module _ (lower : (x i : ℕ) → x < length rs → i < length (arguments (row rs x)) → get_or (arguments (row rs x)) i 0 < length rs)
      (c d : ℕ) (lc : c < length rs) (ld : d < length rs) (kc : f c ≡ f a) (kd : f d ≡ f b) (oc : Compound (row rs c)) (od : Compound (row rs d)) where
    -- their trees are one where the two terms' are
    trees_agree : (v : ℕ → Tree) → Solves rs v → Respects (length rs) f v → v a ≡ v b →
        ((over_of (row rs c) oc).0 ≡ (over_of (row rs d) od).0) × (forest (map v (arguments (row rs c))) ≡ forest (map v (arguments (row rs d))))
    trees_agree v fits respects e =
        let p = over_of (row rs c) oc in
        let q = over_of (row rs d) od in
        let here : v c ≡ Tree.node p.0 (forest (map v (arguments (row rs c)))) = fits c p.0 (arguments (row rs c)) lc p.1 in
        let there : v d ≡ Tree.node q.0 (forest (map v (arguments (row rs d)))) = fits d q.0 (arguments (row rs d)) ld q.1 in
        let same : v c ≡ v d = respects c a lc join.left kc ∙ e ∙ respects b d join.right ld (sym kd) in
        (cc, cc)

    pub terms_clash : (qs ks : List ℕ) → alike (row rs c) (row rs d) ≡ false → Answer rs f (λ h. h a ≡ h b) (λ v. v a ≡ v b) qs ks false
    terms_clash qs ks unlike =
        record {
          brought = λ no. never no;
          clash = λ _ v fits respects e.
              let k = trees_agree v fits respects e in
              alike_no (row rs c) (row rs d) (over_of (row rs c) oc).0 (over_of (row rs d) od).0 (arguments (row rs c)) (arguments (row rs d))
              (over_of (row rs c) oc).1 (over_of (row rs d) od).1 unlike k.0 (forest_places v (arguments (row rs c)) (arguments (row rs d)) k.1).0;
        }

    pub terms_next : (qs ks : List ℕ) (r : Bool) → alike (row rs c) (row rs d) ≡ true →
        Answer rs g (Agree (arguments (row rs c)) (arguments (row rs d)) 0) (Agree (arguments (row rs c)) (arguments (row rs d)) 0) qs ks r →
        Answer rs f (λ h. h a ≡ h b) (λ v. v a ≡ v b) qs ks r
    terms_next qs ks r like rest =
        record {
          brought = λ yes.
              let more = rest.brought yes in
              record {
                g = more.g;
                rooted = more.rooted;
                tops = more.tops;
                merged = record {
                  coarser = λ x y lx ly e. more.merged.coarser x y lx ly (join.coarser x y lx ly e);
                  closes = λ w finer k. more.merged.closes w finer (join_closed w k (λ x y s t xs ys lx ly p q e u.
                      k x c s left xs (arguments (row rs c)) lx lc (p ∙ sym kc) e (over_of (row rs c) oc).1
                      ∙ bridge more.g more.meets w finer
                      ∙ k d y right t (arguments (row rs d)) ys ld ly (kd ∙ sym q) (over_of (row rs d) od).1 u));
                };
                meets = more.merged.coarser a b join.left join.right join.met;
                sound = λ v fits respects e. more.sound v fits (join_respects v respects e) (agree v fits respects e);
              };
          clash = λ no v fits respects e. rest.clash no v fits (join_respects v respects e) (agree v fits respects e);
        }
      where
        left : ℕ
        left = (over_of (row rs c) oc).0

        right : ℕ
        right = (over_of (row rs d) od).0

        same : (left ≡ right) × (length (arguments (row rs c)) ≡ length (arguments (row rs d)))
        same = alike_yes (row rs c) (row rs d) left right (arguments (row rs c)) (arguments (row rs d)) (over_of (row rs c) oc).1 (over_of (row rs d) od).1 like

        agree : (v : ℕ → Tree) → Solves rs v → Respects (length rs) f v → v a ≡ v b → Agree (arguments (row rs c)) (arguments (row rs d)) 0 v
        agree v fits respects e i from l = (forest_places v (arguments (row rs c)) (arguments (row rs d)) (trees_agree v fits respects e).1).1 i l

        bridge : (h : ℕ → ℕ) → Agree (arguments (row rs c)) (arguments (row rs d)) 0 h → (w : ℕ → ℕ) → Coarser (length rs) h w →
            Row.over left (map w (arguments (row rs c))) ≡ Row.over right (map w (arguments (row rs d)))
        bridge h meets w finer =
            ap₂ Row.over same.0 (map_places w (arguments (row rs c)) (arguments (row rs d)) same.1 (λ i l.
            finer (get_or (arguments (row rs c)) i 0) (get_or (arguments (row rs d)) i 0) (lower c i lc l) (lower d i ld (omega (arith, same.1))) (meets i (omega arith) l)))
