-- Visits of classes, one after another. Assumes nothing.
use Rattle.std.proofs.Common.{◌≡◌, ℕ, zero, suc, ◌+◌, ◌<◌, ◌≤◌, true, false, ◌⊎◌, List, [], ◌∷◌, map, length, get_or, set, sym, refl, ap, ◌∙◌, subst, inl, inr, arith, length-set, get_or-set_other, get_or-set_same}
use Rattle.std.proofs.lemmas.Bool.{cases_eq}
use Rattle.logic.specs.Trees.{Tree}
use Rattle.groups.proofs.Counts.{tally_within}
use Rattle.terms.specs.Sheets.{Row, row, arguments}
use Rattle.terms.specs.Values.{forest}
use Rattle.unify.specs.declared.Mark.{Mark}
use Rattle.unify.specs.declared.Mark.TheVariants as M
use Rattle.unify.specs.Visits.{mark, fresh, unseen, number, Numbered, Entry, Visited, Onward, size, sizes}
use Rattle.unify.proofs.Lists.{never}
use Rattle.unify.proofs.Counts.{tally_le, tally_less}

-- marks differ
pub done_fresh : (k : ℕ) → Mark.Done k ≡ Mark.Unseen → ⊥
done_fresh k e = let z : ◌≡◌ {A = ℕ} 0 1 = cc in omega arith

pub done_begun : (k : ℕ) → Mark.Done k ≡ Mark.Begun → ⊥
done_begun k e = let z : ◌≡◌ {A = ℕ} 0 1 = cc in omega arith

pub begun_fresh : Mark.Begun ≡ Mark.Unseen → ⊥
begun_fresh e = let z : ◌≡◌ {A = ℕ} 0 1 = cc in omega arith

-- a written mark, and the others
pub mark_here : (ms : List Mark) (c : ℕ) (m : Mark) → c < length ms → mark (set ms c m) c ≡ m
mark_here ms c m h = rw get_or-set_same

pub mark_other : (ms : List Mark) (c : ℕ) (m : Mark) (x : ℕ) → (x ≡ c → ⊥) → mark (set ms c m) x ≡ mark ms x
mark_other ms c m x other = rw get_or-set_other

-- a mark that is there is at a place of the list
pub mark_within : (ms : List Mark) (c k : ℕ) → mark ms c ≡ Mark.Done k → c < length ms
mark_within [] zero k e = absurd (done_fresh k (sym e))
mark_within [] (suc c) k e = absurd (done_fresh k (sym e))
mark_within (m ∷ ms) zero k e = omega arith
mark_within (m ∷ ms) (suc c) k e = let h : c < length ms = mark_within ms c k e in omega arith

-- a mark that is no longer unseen leaves no more unseen, and fewer where it was
not_fresh : (m : Mark) → (m ≡ Mark.Unseen → ⊥) → fresh m ≡ false
not_fresh M.Unseen h = absurd (h refl)
not_fresh M.Begun h = refl
not_fresh (M.Done k) h = refl

module _ (ms : List Mark) (c : ℕ) (m : Mark) (h : c < length ms) (seen : m ≡ Mark.Unseen → ⊥) where
  still : (i : ℕ) → i < length ms → fresh (mark (set ms c m) i) ≡ true → fresh (mark ms i) ≡ true
  still i l passes =
      elim (cases_eq i c) [
        | inl same ↦ never (sym (ap fresh (ap (mark (set ms c m)) same ∙ mark_here ms c m h) ∙ not_fresh m seen) ∙ passes)
        | inr other ↦ sym (ap fresh (mark_other ms c m i other)) ∙ passes
      ]

  pub unseen_le : unseen (set ms c m) ≤ unseen ms
  unfolding unseen
  unseen_le = rw length-set (tally_le (λ x. fresh (mark (set ms c m) x)) (λ x. fresh (mark ms x)) (length ms) still)

  pub unseen_less : mark ms c ≡ Mark.Unseen → unseen (set ms c m) < unseen ms
  unfolding unseen
  unseen_less was =
      rw length-set (tally_less (λ x. fresh (mark (set ms c m) x)) (λ x. fresh (mark ms x)) (length ms) c h still
      (ap fresh (mark_here ms c m h) ∙ not_fresh m seen) (ap fresh was))

-- there are no more unseen classes than places
pub unseen_within : (ms : List Mark) → unseen ms ≤ length ms
unfolding unseen
unseen_within ms = tally_within (λ c. fresh (mark ms c)) (length ms)

module _ (rs : List Row) (f : ℕ → ℕ) (hs : List ℕ) where
  -- nothing is visited yet
  pub start_visited : (ms : List Mark) (Q : List Row) → length ms ≡ length rs → ((c : ℕ) → c < length ms → mark ms c ≡ Mark.Unseen) → Visited rs f hs ms Q
  start_visited ms Q long clean =
      record {
        long = long;
        done = λ c k lc e. absurd (done_fresh k (sym e ∙ clean c (omega arith)));
        alone = λ c d k lc ld e h name. absurd (done_fresh k (sym e ∙ clean c (omega arith)));
      }

  pub onward_refl : (ms : List Mark) (Q : List Row) → Visited rs f hs ms Q → Onward rs f hs ms Q ms Q
  onward_refl ms Q visited =
      record {
        visited = visited;
        rows = λ k h. refl;
        more = omega arith;
        keeps = λ c k e. e;
        stays = λ c e. e;
        begun = λ c e. e;
        fewer = omega arith;
        count = omega arith;
      }

  pub onward_trans : (ms ns os : List Mark) (Q P S : List Row) → Onward rs f hs ms Q ns P → Onward rs f hs ns P os S → Onward rs f hs ms Q os S
  onward_trans ms ns os Q P S x y =
      record {
        visited = y.visited;
        rows = λ k h. y.rows k (omega (arith, x.more)) ∙ x.rows k h;
        more = omega (arith, x.more, y.more);
        keeps = λ c k e. y.keeps c k (x.keeps c k e);
        stays = λ c e. y.stays c (x.stays c e);
        begun = λ c e. x.begun c (y.begun c e);
        fewer = omega (arith, x.fewer, y.fewer);
        count = omega (arith, x.count, y.count);
      }

  -- an entry stays as marks and rows go on
  entry_stays : (ms ns : List Mark) (Q P : List Row) (c k : ℕ) → ((d j : ℕ) → mark ms d ≡ Mark.Done j → mark ns d ≡ Mark.Done j)
      → ((j : ℕ) → j < length Q → row P j ≡ row Q j) → length Q ≤ length P → Entry rs f hs ms Q c k → Entry rs f hs ns P c k
  entry_stays ms ns Q P c k keeps rows more entry =
      record {
        within = omega (arith, entry.within);
        name = λ h. rows k entry.within ∙ entry.name h;
        numbers = entry.numbers;
        compound = λ s xs h e. rows k entry.within ∙ entry.compound s xs h e;
        long = entry.long;
        each = λ i h l. keeps (f (get_or (arguments (row rs (get_or hs c 0))) i 0)) (get_or entry.numbers i 0) (entry.each i h l);
      }

  -- a class is marked as begun
  pub begin_visited : (ms : List Mark) (Q : List Row) (c : ℕ) → c < length rs → mark ms c ≡ Mark.Unseen → Visited rs f hs ms Q → Visited rs f hs (set ms c Mark.Begun) Q
  begin_visited ms Q c lc was visited =
      record {
        long = simp length-set visited.long;
        done = λ d k ld e. entry_stays ms (set ms c Mark.Begun) Q Q d k keeps (λ j h. refl) (omega arith) (visited.done d k ld (back d k e));
        alone = λ d x k ld lx e h name. visited.alone d x k ld lx (back d k e) (back x k h) name;
      }
    where
      back : (d k : ℕ) → mark (set ms c Mark.Begun) d ≡ Mark.Done k → mark ms d ≡ Mark.Done k
      back d k e =
          elim (cases_eq d c) [
            | inl same ↦ absurd (done_begun k (sym e ∙ ap (mark (set ms c Mark.Begun)) same ∙ mark_here ms c Mark.Begun (omega (arith, visited.long))))
            | inr other ↦ sym (mark_other ms c Mark.Begun d other) ∙ e
          ]

      keeps : (d j : ℕ) → mark ms d ≡ Mark.Done j → mark (set ms c Mark.Begun) d ≡ Mark.Done j
      keeps d j e =
          elim (cases_eq d c) [
            | inl same ↦ absurd (done_fresh j (sym e ∙ ap (mark ms) same ∙ was))
            | inr other ↦ mark_other ms c Mark.Begun d other ∙ e
          ]

  -- a class that was begun gets its number
  module _ (ms ns : List Mark) (Q P S : List Row) (c k : ℕ) (lc : c < length rs) (long : length ms ≡ length rs) (was : mark ms c ≡ Mark.Unseen)
      (onward : Onward rs f hs (set ms c Mark.Begun) Q ns P)
      (rows : (j : ℕ) → j < length P → row S j ≡ row P j) (more : length P ≤ length S) (one : length S ≤ length P + 1)
      (entry : Entry rs f hs ns S c k) (apart : row S k ≡ Row.name → length P ≤ k) where
    begun : (j : ℕ) → mark ns c ≡ Mark.Done j → ⊥
    begun j e = done_begun j (sym e ∙ onward.stays c (mark_here ms c Mark.Begun (omega arith)))

    here : mark (set ns c (Mark.Done k)) c ≡ Mark.Done k
    here = mark_here ns c (Mark.Done k) (omega (arith, onward.visited.long))

    keeps : (d j : ℕ) → mark ns d ≡ Mark.Done j → mark (set ns c (Mark.Done k)) d ≡ Mark.Done j
    keeps d j e =
        elim (cases_eq d c) [
          | inl same ↦ absurd (begun j (ap (mark ns) (sym same) ∙ e))
          | inr other ↦ mark_other ns c (Mark.Done k) d other ∙ e
        ]

    -- a number that is marked is the new one, or was there
    from : (d j : ℕ) → mark (set ns c (Mark.Done k)) d ≡ Mark.Done j → ((d ≡ c) × (j ≡ k)) ⊎ (mark ns d ≡ Mark.Done j)
    from d j e =
        elim (cases_eq d c) [
          | inl same ↦
              let both : Mark.Done j ≡ Mark.Done k = sym e ∙ ap (mark (set ns c (Mark.Done k))) same ∙ here in
              inl (same, ap number both)
          | inr other ↦ inr (sym (mark_other ns c (Mark.Done k) d other) ∙ e)
        ]

    done : (d j : ℕ) → d < length rs → mark (set ns c (Mark.Done k)) d ≡ Mark.Done j → Entry rs f hs (set ns c (Mark.Done k)) S d j
    done d j ld e =
        elim (from d j e) [
          | inl new ↦
              subst (λ (x : ℕ). Entry rs f hs (set ns c (Mark.Done k)) S x j) (sym new.0)
              (subst (λ (x : ℕ). Entry rs f hs (set ns c (Mark.Done k)) S c x) (sym new.1) (entry_stays ns (set ns c (Mark.Done k)) S S c k keeps (λ i h. refl) (omega arith) entry))
          | inr old ↦ entry_stays ns (set ns c (Mark.Done k)) P S d j keeps rows more (onward.visited.done d j ld old)
        ]

    -- an old number is no new name's
    clear : (d j : ℕ) → d < length rs → mark ns d ≡ Mark.Done j → j ≡ k → row S j ≡ Row.name → ⊥
    clear d j ld old same name =
        let small = (onward.visited.done d j ld old).within in
        let large : length P ≤ k = apart (ap (row S) (sym same) ∙ name) in
        omega arith

    alone : (d x j : ℕ) → d < length rs → x < length rs → mark (set ns c (Mark.Done k)) d ≡ Mark.Done j → mark (set ns c (Mark.Done k)) x ≡ Mark.Done j
        → row S j ≡ Row.name → d ≡ x
    alone d x j ld lx e h name =
        elim (from d j e) [
          | inl new ↦ elim (from x j h) [
            | inl too ↦ new.0 ∙ sym too.0
            | inr old ↦ absurd (clear x j lx old new.1 name)
          ]
          | inr old ↦ elim (from x j h) [
            | inl new ↦ absurd (clear d j ld old new.1 name)
            | inr too ↦ onward.visited.alone d x j ld lx old too (sym (rows j (onward.visited.done d j ld old).within) ∙ name)
          ]
        ]

    pub finish_onward : Onward rs f hs ms Q (set ns c (Mark.Done k)) S
    finish_onward =
        let less : unseen (set ms c Mark.Begun) < unseen ms = unseen_less ms c Mark.Begun (omega arith) (λ e. let z : ◌≡◌ {A = ℕ} 0 1 = cc in omega arith) was in
        let last : unseen (set ns c (Mark.Done k)) ≤ unseen ns = unseen_le ns c (Mark.Done k) (omega (arith, onward.visited.long)) (done_fresh k) in
        record {
          visited = record { long = simp length-set onward.visited.long; done = done; alone = alone };
          rows = λ j h. rows j (omega (arith, onward.more)) ∙ onward.rows j h;
          more = omega (arith, onward.more);
          keeps = λ d j e. keeps d j (onward.keeps d j (elim (cases_eq d c) [
            | inl same ↦ absurd (done_fresh j (sym e ∙ ap (mark ms) same ∙ was))
            | inr other ↦ mark_other ms c Mark.Begun d other ∙ e
          ]));
          stays = λ d e.
              let other : d ≡ c → ⊥ = λ same. begun_fresh (sym e ∙ ap (mark ms) same ∙ was) in
              mark_other ns c (Mark.Done k) d other ∙ onward.stays d (mark_other ms c Mark.Begun d other ∙ e);
          begun = λ d e. elim (cases_eq d c) [
            | inl same ↦ absurd (done_begun k (sym here ∙ ap (mark (set ns c (Mark.Done k))) (sym same) ∙ e))
            | inr other ↦ sym (mark_other ms c Mark.Begun d other) ∙ onward.begun d (sym (mark_other ns c (Mark.Done k) d other) ∙ e)
          ];
          fewer = omega (arith, onward.fewer);
          count = omega (arith, onward.count);
        }

    pub finish_numbered : Numbered (set ns c (Mark.Done k)) c
    finish_numbered = here ∙ ap (λ (m : Mark). Mark.Done (number m)) (sym here)

-- an argument's tree is inside its term's
pub size_argument : (v : ℕ → Tree) (xs : List ℕ) (i : ℕ) → i < length xs → size (v (get_or xs i 0)) ≤ sizes (forest (map v xs))
size_argument v [] i l = absurd (omega arith)
size_argument v (x ∷ xs) zero l = omega arith
size_argument v (x ∷ xs) (suc i) l = let more = size_argument v xs i (omega arith) in omega arith
