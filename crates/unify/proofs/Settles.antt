-- The next settled table, from the one before by bringing two terms together. Assumes nothing.
use Rattle.std.proofs.Common.{◌≡◌, ℕ, ◌<◌, List, [], ◌∷◌, ◌++◌, map, length, get_or, sym, ap, ◌∙◌, ap₂, arith}
use Rattle.logic.specs.declared.Equation.{Equation}
use Rattle.terms.specs.Sheets.{Row, row, arguments, Sheet}
use Rattle.classes.specs.Classes.{Joins, Closed, class, Lowest, Heads, Settled}
use Rattle.unify.specs.declared.Mark.{Mark}
use Rattle.unify.specs.Parents.{Parents, Rooted}
use Rattle.unify.specs.Merging.{Coarser, Tops, Brought}
use Rattle.unify.specs.Visits.{Unfit}
use Rattle.unify.specs.Settling.{Unified, Refuted, AllVisited, number_of, Lows}
use Rattle.unify.proofs.Lists.{map_places}
use Rattle.unify.proofs.Numbers.{map_agrees, number_coarser, number_closed, number_congruent, number_ordered, number_sound}

-- a flat table is its own parents, and its classes are rooted in it
pub flat_parents : (N : ℕ) (ls : List ℕ) → Lowest N ls → Parents N ls
flat_parents N ls lowest = record { long = lowest.long; low = lowest.low }

pub flat_rooted : (N : ℕ) (ls : List ℕ) → Lowest N ls → Rooted N ls (class ls)
flat_rooted N ls lowest =
    record { up = lowest.own; top = λ a la e. e; own = lowest.own; low = lowest.low }

-- the lowest compound terms of the classes are compound terms of the classes
pub heads_tops : (rs : List Row) (ls hs : List ℕ) → Heads rs ls hs → Tops rs (class ls) hs
heads_tops rs ls hs heads = record { some = λ a la mine small. heads.some a la small; each = λ t lt compound. omega (arith, heads.each t lt compound) }

module _ (rs : List Row) (lower : (x i : ℕ) → x < length rs → i < length (arguments (row rs x)) → get_or (arguments (row rs x)) i 0 < length rs) where
  -- classes closed in one way are closed in any coarser way
  arguments_below : (a s : ℕ) (xs : List ℕ) (i : ℕ) → a < length rs → row rs a ≡ Row.over s xs → i < length xs → get_or xs i 0 < length rs
  arguments_below a s xs i la e l =
      let same : arguments (row rs a) ≡ xs = ap arguments e in
      omega (arith, lower a i la (omega (arith, ap length same)), ap (λ (ys : List ℕ). get_or ys i 0) same)

  closed_coarser : (f g h : ℕ → ℕ) → Closed rs f g → Coarser (length rs) g h → Closed rs f h
  closed_coarser f g h closed coarser a b s r xs ys la lb e p q =
      let both : Row.over s (map g xs) ≡ Row.over r (map g ys) = closed a b s r xs ys la lb e p q in
      let symbol : s ≡ r = cc in
      let args : map g xs ≡ map g ys = cc in
      let places = map_agrees g xs ys args in
      ap₂ Row.over symbol (map_places h xs ys places.0 (λ i l.
      coarser (get_or xs i 0) (get_or ys i 0) (arguments_below a s xs i la p l) (arguments_below b r ys i lb q (omega (arith, places.0))) (places.1 i l)))

  -- what two functions that agree on the terms share
  module _ (f g : ℕ → ℕ) (same : (a : ℕ) → a < length rs → g a ≡ f a) where
    turn : (a b : ℕ) → a < length rs → b < length rs → g a ≡ g b → f a ≡ f b
    turn a b la lb e = sym (same a la) ∙ e ∙ same b lb

    keep : (a b : ℕ) → a < length rs → b < length rs → f a ≡ f b → g a ≡ g b
    keep a b la lb e = same a la ∙ e ∙ sym (same b lb)

    tops_same : ((a : ℕ) → a < length rs → f a < length rs) → (hs : List ℕ) → Tops rs f hs → Tops rs g hs
    tops_same within hs tops =
        record {
          some = λ a la mine small.
              let t = tops.some a la (sym (same a la) ∙ mine) small in
              (same (get_or hs a 0) small ∙ t.0, t.1);
          each = λ t lt compound. omega (arith, tops.each t lt compound, ap (λ (c : ℕ). get_or hs c 0) (same t lt));
        }

  -- a merge, with its parents made flat
  pub unified : (ls qs ts ks : List ℕ) (l r : ℕ) → l < length rs → r < length rs → Closed rs (class ls) (class ls) →
      (brought : Brought rs (class ls) (λ g. g l ≡ g r) (λ v. v l ≡ v r) qs ks) → length ts ≡ length rs →
      ((a : ℕ) → a < length rs → class ts a ≡ brought.g a) → Unified rs (class ls) l r ts ks
  unified ls qs ts ks l r ll lr closed brought long flat =
      let g = brought.g in
      let within : (a : ℕ) → a < length rs → g a < length rs = λ a la. omega (arith, brought.rooted.low a la) in
      let mine : (a : ℕ) → a < length rs → g (g a) ≡ g a = λ a la. brought.rooted.top (g a) (within a la) (brought.rooted.own a la) in
      let shut : Closed rs g (class ts) = brought.merged.closes (class ts) (keep g (class ts) flat)
      (closed_coarser (class ls) (class ls) (class ts) closed (λ a b la lb e. keep g (class ts) flat a b la lb (brought.merged.coarser a b la lb e))) in
      record {
        lowest = record {
          long = long;
          low = λ a la. omega (arith, flat a la, brought.rooted.low a la);
          own = λ a la. ap (class ts) (flat a la) ∙ flat (g a) (within a la) ∙ mine a la ∙ sym (flat a la);
        };
        tops = tops_same g (class ts) flat within ks brought.tops;
        coarser = λ a b la lb e. keep g (class ts) flat a b la lb (brought.merged.coarser a b la lb e);
        closed = λ a b s t xs ys la lb e p q. shut a b s t xs ys la lb (turn g (class ts) flat a b la lb e) p q;
        meets = keep g (class ts) flat l r ll lr brought.meets;
        sound = λ v fits respects e a b la lb h. brought.sound v fits respects e a b la lb (turn g (class ts) flat a b la lb h);
      }

  -- equations whose sides g makes one
  joins_coarser : (f g : ℕ → ℕ) → Coarser (length rs) f g → (es : List Equation) → Joins (length rs) f es → Joins (length rs) g es
  joins_coarser f g coarser [] joins = tt
  joins_coarser f g coarser (e ∷ es) joins =
      let here = joins.0 in
      ((here.0, here.1, coarser e.left e.right here.0 here.1 here.2), joins_coarser f g coarser es joins.1)

joins_push : {X : Type 0} (N : ℕ) (f : ℕ → X) (es : List Equation) (e : Equation) → Joins N f es → e.left < N → e.right < N → f e.left ≡ f e.right
    → Joins N f (es ++ (e ∷ []))
joins_push N f [] e joins left right met = ((left, right, met), tt)
joins_push N f (x ∷ es) e joins left right met = (joins.0, joins_push N f es e joins.1 left right met)

joins_older : {X : Type 0} (N : ℕ) (f : ℕ → X) (es : List Equation) (e : Equation) → Joins N f (es ++ (e ∷ [])) → Joins N f es × (f e.left ≡ f e.right)
joins_older N f [] e joins = (tt, joins.0.2)
joins_older N f (x ∷ es) e joins = let rest = joins_older N f es e joins.1 in ((joins.0, rest.0), rest.1)

-- two terms brought together, every class numbered, and the lowest term of each number put in a table: it is settled
pub settled_next : (ar : List ℕ) (rs : List Row) (es : List Equation) (e : Equation) (old hs ts ks : List ℕ) (ms : List Mark) (Q : List Row) (ls ns : List ℕ)
    → ((x i : ℕ) → x < length rs → i < length (arguments (row rs x)) → get_or (arguments (row rs x)) i 0 < length rs)
    → e.left < length rs → e.right < length rs → Settled rs es old hs → Unified rs (class old) e.left e.right ts ks
    → Sheet ar Q → AllVisited rs ts ks ms Q (length rs) → Lows (length rs) (number_of ts ms) ls → Heads rs ls ns
    → Settled rs (es ++ (e ∷ [])) ls ns
settled_next ar rs es e old hs ts ks ms Q ls ns lower left right settled unified order visited lows heads =
    let g = number_of ts ms in
    let closed = number_closed ar rs ts ks ms Q order lower unified.lowest unified.tops unified.closed visited in
    let congruent = number_congruent ar rs ts ks ms Q order lower unified.lowest unified.tops unified.closed visited in
    let ordered = number_ordered ar rs ts ks ms Q order lower unified.lowest unified.tops unified.closed visited in
    let coarser : Coarser (length rs) (class ts) (class ls) = λ a b la lb h.
    (lows.same a b la lb).1 (number_coarser ar rs ts ks ms Q order lower unified.lowest unified.tops unified.closed visited a b la lb h) in
    let both : Coarser (length rs) (class old) (class ls) = λ a b la lb h. coarser a b la lb (unified.coarser a b la lb h) in
    let into : Coarser (length rs) g (class ls) = λ a b la lb h. (lows.same a b la lb).1 h in
    let shut : Closed rs g (class ls) = closed_coarser rs lower g g (class ls) closed into in
    record {
      lowest = lows.lowest;
      heads = heads;
      closed = λ a b s t xs ys la lb h p q. shut a b s t xs ys la lb ((lows.same a b la lb).0 h) p q;
      congruent = λ a b s xs ys la lb p q h.
          let places = map_agrees (class ls) xs ys h in
          into a b la lb (congruent a b s xs ys la lb p q (map_places g xs ys places.0 (λ i l.
          (lows.same (get_or xs i 0) (get_or ys i 0) (arguments_below rs lower a s xs i la p l) (arguments_below rs lower b s ys i lb q (omega (arith, places.0)))).0 (places.1 i l))));
      ordered = record {
        rank = ordered.rank;
        bound = ordered.bound;
        level = λ a b la lb h. ordered.level a b la lb ((lows.same a b la lb).0 h);
        after = ordered.after;
      };
      joins = joins_push (length rs) (class ls) es e (joins_coarser rs lower (class old) (class ls) both es settled.joins) left right (coarser e.left e.right left right unified.meets);
      sound = λ v fits joins a b la lb h.
          let older = joins_older (length rs) v es e joins in
          number_sound ar rs ts ks ms Q order lower unified.lowest unified.tops unified.closed visited v fits
          (unified.sound v fits (settled.sound v fits older.0) older.1) a b la lb ((lows.same a b la lb).0 h);
    }

-- two terms brought together, and the classes can't be put in order
pub unfit_refuted : (rs : List Row) (f : ℕ → ℕ) (l r : ℕ) (ts ks : List ℕ) → Unified rs f l r ts ks → Unfit rs (class ts) → Refuted rs f l r
unfit_refuted rs f l r ts ks unified unfit v fits respects e = unfit v fits (unified.sound v fits respects e)

-- a number is below the number of terms
pub numbers_below : (rs : List Row) (ts ks : List ℕ) (ms : List Mark) (Q : List Row) → Lowest (length rs) ts → AllVisited rs ts ks ms Q (length rs)
    → (a : ℕ) → a < length rs → number_of ts ms a < length rs
numbers_below rs ts ks ms Q lowest visited a la =
    let below : class ts a < length rs = omega (arith, lowest.low a la) in
    let done = visited.visited.done (class ts a) (number_of ts ms a) below (visited.all (class ts a) below (lowest.own a la)) in
    omega (arith, done.within, visited.count)
