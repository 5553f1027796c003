-- The first numbers with each key, as numbers are gone through in order. Assumes nothing.
use Rattle.std.proofs.Common.{◌≡◌, ℕ, ◌+◌, ◌<◌, ◌≤◌, Bool, true, false, cond, ltb, List, length, get_or, set, sym, refl, ap, ◌∙◌, subst, inl, inr, arith, length-set, get_or-set_other, get_or-set_same}
use Rattle.std.proofs.lemmas.Bool.{cases_eq, cases_lt, lt-ltb, le-ltb}
use Rattle.terms.specs.Sheets.{Row, row, Compound}
use Rattle.classes.specs.Classes.{class, Heads}
use Rattle.unify.specs.Settling.{Lows}
use Rattle.unify.specs.Firsts.{Firsts, noted}

module _ (P : ℕ → Type 0) (g : ℕ → ℕ) (N : ℕ) where
  -- nothing gone through yet
  pub firsts_none : (L : List ℕ) → ((k : ℕ) → k < N → N ≤ get_or L k 0) → Firsts P g N 0 L
  firsts_none L empty = record { some = λ k l small. absurd (omega (arith, empty k l)); least = λ x l p. absurd (omega arith) }

  -- a number without the property
  pub firsts_skip : (n : ℕ) (L : List ℕ) → (P n → ⊥) → Firsts P g N n L → Firsts P g N (n + 1) L
  firsts_skip n L lacks firsts =
      record {
        some = λ k l small. let s = firsts.some k l small in (omega (arith, s.0), s.1, s.2);
        least = λ x l p. elim (cases_eq x n) [
          | inl same ↦ absurd (lacks (subst P same p))
          | inr other ↦ firsts.least x (omega arith) p
        ];
      }

  -- a number with it
  module _ (n : ℕ) (L : List ℕ) (long : length L ≡ N) (has : P n) (below : g n < N) (within : n < N) (firsts : Firsts P g N n L) where
    kept : get_or L (g n) 0 < N → Firsts P g N (n + 1) L
    kept small =
        record {
          some = λ k l less. let s = firsts.some k l less in (omega (arith, s.0), s.1, s.2);
          least = λ x l p. elim (cases_eq x n) [
            | inl same ↦ omega (arith, same, ap (λ (y : ℕ). get_or L (g y) 0) same, (firsts.some (g n) below small).0)
            | inr other ↦ firsts.least x (omega arith) p
          ];
        }

    here : get_or (set L (g n) n) (g n) 0 ≡ n
    here = let h : g n < length L = omega (arith, long) in rw get_or-set_same

    there : (k : ℕ) → (k ≡ g n → ⊥) → get_or (set L (g n) n) k 0 ≡ get_or L k 0
    there k other = rw get_or-set_other

    added : N ≤ get_or L (g n) 0 → Firsts P g N (n + 1) (set L (g n) n)
    added none = record { some = some; least = least }
      where
        some : (k : ℕ) → k < N → get_or (set L (g n) n) k 0 < N → (get_or (set L (g n) n) k 0 < n + 1) × P (get_or (set L (g n) n) k 0) × (g (get_or (set L (g n) n) k 0) ≡ k)
        some k l small =
            elim (cases_eq k (g n)) [
              | inl same ↦
                  let at : get_or (set L (g n) n) k 0 ≡ n = ap (λ (y : ℕ). get_or (set L (g n) n) y 0) same ∙ here in
                  (omega (arith, at), subst P (sym at) has, ap g at ∙ sym same)
              | inr other ↦
                  let at = there k other in
                  let s = firsts.some k l (omega (arith, at)) in
                  (omega (arith, at, s.0), subst P (sym at) s.1, ap g at ∙ s.2)
            ]

        least : (x : ℕ) → x < n + 1 → P x → get_or (set L (g n) n) (g x) 0 ≤ x
        least x l p =
            elim (cases_eq x n) [
              | inl same ↦ omega (arith, same, ap (λ (y : ℕ). get_or (set L (g n) n) (g y) 0) same, here)
              | inr other ↦
                  let old = firsts.least x (omega arith) p in
                  elim (cases_eq (g x) (g n)) [
                    | inl key ↦ absurd (omega (arith, old, ap (λ (y : ℕ). get_or L y 0) key, none))
                    | inr apart ↦ omega (arith, old, there (g x) apart)
                  ]
            ]

    pub firsts_note : Firsts P g N (n + 1) (noted L (g n) n)
    firsts_note =
        elim (cases_lt (get_or L (g n) 0) N) [
          | inl small ↦
              let yes_test : ltb (get_or L (g n) 0) (length L) ≡ true = lt-ltb (get_or L (g n) 0) (length L) (omega (arith, long)) in
              subst (λ (M : List ℕ). Firsts P g N (n + 1) M) (sym (ap (λ (b : Bool). cond b L (set L (g n) n)) yes_test)) (kept small)
          | inr none ↦
              let no_test : ltb (get_or L (g n) 0) (length L) ≡ false = le-ltb (get_or L (g n) 0) (length L) (omega (arith, long)) in
              subst (λ (M : List ℕ). Firsts P g N (n + 1) M) (sym (ap (λ (b : Bool). cond b L (set L (g n) n)) no_test)) (added none)
        ]

    -- the number's key has a first now, and it stays
    pub noted_small : get_or (noted L (g n) n) (g n) 0 ≤ n
    noted_small = firsts_note.least n (omega arith) has

-- where a key has a first, no later number changes it
pub noted_keeps : (L : List ℕ) (k a j : ℕ) → get_or L j 0 < length L → get_or (noted L k a) j 0 ≡ get_or L j 0
noted_keeps L k a j small =
    elim (cases_lt (get_or L k 0) (length L)) [
      | inl old ↦ ap (λ (b : Bool). get_or (cond b L (set L k a)) j 0) (lt-ltb (get_or L k 0) (length L) old)
      | inr none ↦
          let other : j ≡ k → ⊥ = λ same. omega (arith, ap (λ (y : ℕ). get_or L y 0) same) in
          ap (λ (b : Bool). get_or (cond b L (set L k a)) j 0) (le-ltb (get_or L k 0) (length L) none) ∙ (let away : get_or (set L k a) j 0 ≡ get_or L j 0 = rw get_or-set_other in away)
    ]

pub noted_long : (L : List ℕ) (k a : ℕ) → length (noted L k a) ≡ length L
noted_long L k a =
    elim (ltb (get_or L k 0) (length L)) as (λ (b : Bool). length (cond b L (set L k a)) ≡ length L) [ true ↦ refl | false ↦ simp length-set ]

-- a table of the firsts of numbers is a table of lowest members
pub lows_firsts : (N : ℕ) (g : ℕ → ℕ) (L ls : List ℕ) → Firsts (λ x. Unit {0}) g N N L → length ls ≡ N → ((a : ℕ) → a < N → g a < N)
    → ((a : ℕ) → a < N → get_or ls a 0 ≡ get_or L (g a) 0) → Lows N g ls
lows_firsts N g L ls firsts long below reads =
    let first : (a : ℕ) → a < N → (get_or ls a 0 ≤ a) × (g (get_or ls a 0) ≡ g a)
    = λ a la.
    let small = firsts.least a la tt in
    let s = firsts.some (g a) (below a la) (omega arith) in
    (omega (arith, reads a la, small), ap g (reads a la) ∙ s.2) in
    record {
      lowest = record {
        long = long;
        low = λ a la. (first a la).0;
        own = λ a la.
            let lb : get_or ls a 0 < N = omega (arith, (first a la).0) in
            reads (get_or ls a 0) lb ∙ ap (λ (k : ℕ). get_or L k 0) (first a la).1 ∙ sym (reads a la);
      };
      same = λ a b la lb. (
        λ e. sym (first a la).1 ∙ ap g e ∙ (first b lb).1,
        λ e. reads a la ∙ ap (λ (k : ℕ). get_or L k 0) e ∙ sym (reads b lb),
      );
    }

-- the first compound terms of the classes are their heads
pub heads_firsts : (rs : List Row) (ls hs : List ℕ) → length hs ≡ length rs → Firsts (λ t. Compound (row rs t)) (class ls) (length rs) (length rs) hs → Heads rs ls hs
heads_firsts rs ls hs long firsts =
    record {
      long = long;
      some = λ a la small. let s = firsts.some a la small in (s.2, s.1);
      each = firsts.least;
    }
