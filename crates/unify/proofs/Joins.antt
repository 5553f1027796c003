-- One class put under another: the parents, the heads and the number of classes after it. Assumes nothing.
use Rattle.std.proofs.Common.{◌≡◌, ℕ, ◌<◌, ◌≤◌, min, max, Bool, true, false, cond, eqb, ◌⊎◌, List, length, get_or, set, sym, ap, ◌∙◌, subst, inl, inr, arith, length-set, get_or-set_other, get_or-set_same}
use Rattle.std.proofs.lemmas.Bool.{eq-eqb, ne_eqb, eqb-true, cases_eq}
use Rattle.groups.specs.Tables.{leads}
use Rattle.terms.specs.Sheets.{Row, row, Compound}
use Rattle.unify.specs.Parents.{Parents, Rooted, roots}
use Rattle.unify.specs.Merging.{Coarser, Tops, joined, Joining}
use Rattle.unify.proofs.Lists.{never}
use Rattle.unify.proofs.Counts.{tally_less}

-- what a join makes of a class
abbrev Moved : (ℕ → ℕ) → ℕ → ℕ → ℕ → Type 0
Moved f low high a = ((f a ≡ high) × (joined f low high a ≡ low)) ⊎ ((f a ≡ high → ⊥) × (joined f low high a ≡ f a))

moved : (f : ℕ → ℕ) (low high a : ℕ) → Moved f low high a
moved f low high a =
    elim (cases_eq (f a) high) [
      | inl same ↦ inl (same, ap (λ (b : Bool). cond b low (f a)) (eq-eqb (f a) high same))
      | inr other ↦ inr (other, ap (λ (b : Bool). cond b low (f a)) (ne_eqb (f a) high other))
    ]

pub join_coarser : (N : ℕ) (f : ℕ → ℕ) (low high : ℕ) → Coarser N f (joined f low high)
join_coarser N f low high a b la lb e = ap (λ (x : ℕ). cond (eqb x high) low x) e

-- terms that a join brings together were together, or were of the two classes
join_cases : (N : ℕ) (f : ℕ → ℕ) (low high a b : ℕ) → f a ≡ low → f b ≡ high → (c d : ℕ) → joined f low high c ≡ joined f low high d →
    (f c ≡ f d) ⊎ (((f c ≡ f a) × (f d ≡ f b)) ⊎ ((f c ≡ f b) × (f d ≡ f a)))
join_cases N f low high a b at under c d e =
    elim (moved f low high c) [
      | inl p ↦ elim (moved f low high d) [
        | inl q ↦ inl (p.0 ∙ sym q.0)
        | inr q ↦ inr (inr (p.0 ∙ sym under, sym q.1 ∙ sym e ∙ p.1 ∙ sym at))
      ]
      | inr p ↦ elim (moved f low high d) [
        | inl q ↦ inr (inl (sym p.1 ∙ e ∙ q.1 ∙ sym at, q.0 ∙ sym under))
        | inr q ↦ inl (sym p.1 ∙ e ∙ q.1)
      ]
    ]

-- the classes of two terms made one
pub join_two : (N : ℕ) (f : ℕ → ℕ) (low high a b : ℕ) → a < N → b < N → low < high → f a ≡ low → f b ≡ high → Joining N f (joined f low high) a b
join_two N f low high a b la lb less at under =
    record {
      left = la;
      right = lb;
      coarser = join_coarser N f low high;
      met = elim (moved f low high a) [
        | inl p ↦ absurd (omega (arith, p.0, at))
        | inr p ↦ elim (moved f low high b) [ inl q ↦ p.1 ∙ at ∙ sym q.1 | inr q ↦ absurd (q.0 under) ]
      ];
      cases = λ c d lc ld e. join_cases N f low high a b at under c d e;
    }

-- the same join, seen from the other term
pub join_turn : (N : ℕ) (f g : ℕ → ℕ) (a b : ℕ) → Joining N f g b a → Joining N f g a b
join_turn N f g a b j =
    record {
      left = j.right;
      right = j.left;
      coarser = j.coarser;
      met = sym j.met;
      cases = λ c d lc ld e.
          elim (j.cases c d lc ld e) [
            | inl p ↦ inl p
            | inr o ↦ elim o [ inl p ↦ inr (inr p) | inr p ↦ inr (inl p) ]
          ];
    }

-- one term that is its own parent put under a lower one
module _ (N : ℕ) (ps : List ℕ) (parents : Parents N ps) (low high : ℕ) (less : low < high) (within : high < N) where
  here : get_or (set ps high low) high 0 ≡ low
  here = let h : high < length ps = omega (arith, parents.long) in rw get_or-set_same

  there : (a : ℕ) → (a ≡ high → ⊥) → get_or (set ps high low) a 0 ≡ get_or ps a 0
  there a other = rw get_or-set_other

  pub join_parents : Parents N (set ps high low)
  join_parents = record { long = simp length-set parents.long; low = down }
    where
      down : (a : ℕ) → a < N → get_or (set ps high low) a 0 ≤ a
      down a la =
          elim (cases_eq a high) [
            | inl same ↦ omega (arith, same, ap (λ (x : ℕ). get_or (set ps high low) x 0) same, here)
            | inr other ↦ omega (arith, there a other, parents.low a la)
          ]

  -- one class less
  pub join_fewer : get_or ps high 0 ≡ high → roots (set ps high low) < roots ps
  unfolding roots
  join_fewer mine =
      let long : length (set ps high low) ≡ length ps = simp length-set in
      rw long (tally_less (leads (set ps high low)) (leads ps) (length ps) high (omega (arith, parents.long)) more gone (eq-eqb (get_or ps high 0) high mine))
    where
      gone : leads (set ps high low) high ≡ false
      gone = ne_eqb (get_or (set ps high low) high 0) high (λ e. omega (arith, e, here))

      more : (i : ℕ) → i < length ps → leads (set ps high low) i ≡ true → leads ps i ≡ true
      more i li passes =
          elim (cases_eq i high) [
            | inl same ↦ absurd (never (sym gone ∙ ap (leads (set ps high low)) (sym same) ∙ passes))
            | inr other ↦ eq-eqb (get_or ps i 0) i (sym (there i other) ∙ eqb-true (get_or (set ps high low) i 0) i passes)
          ]

-- one term put under another that stands for its class
module _ (N : ℕ) (ps : List ℕ) (f : ℕ → ℕ) (parents : Parents N ps) (rooted : Rooted N ps f) (low high : ℕ) (less : low < high) (within : high < N)
    (lows : f low ≡ low) (highs : f high ≡ high) where
  pub join_rooted : Rooted N (set ps high low) (joined f low high)
  join_rooted = record { up = up; top = top; own = own; low = down }
    where
      up : (a : ℕ) → a < N → joined f low high (get_or (set ps high low) a 0) ≡ joined f low high a
      up a la =
          elim (cases_eq a high) [
            | inl same ↦
                let p : get_or (set ps high low) a 0 ≡ low = ap (λ (x : ℕ). get_or (set ps high low) x 0) same ∙ here N ps parents low high less within in
                ap (joined f low high) p
                ∙ (elim (moved f low high low) [ inl q ↦ q.1 | inr q ↦ q.1 ∙ lows ])
                ∙ sym (elim (moved f low high a) [ inl q ↦ q.1 | inr q ↦ absurd (q.0 (ap f same ∙ highs)) ])
            | inr other ↦ ap (joined f low high) (there N ps parents low high less within a other) ∙ join_coarser N f low high (get_or ps a 0) a (omega (arith, parents.low a la)) la (rooted.up a la)
          ]

      top : (a : ℕ) → a < N → get_or (set ps high low) a 0 ≡ a → joined f low high a ≡ a
      top a la e =
          elim (cases_eq a high) [
            | inl same ↦ absurd (omega (arith, same, e, ap (λ (x : ℕ). get_or (set ps high low) x 0) same, here N ps parents low high less within))
            | inr other ↦
                let mine : f a ≡ a = rooted.top a la (sym (there N ps parents low high less within a other) ∙ e) in
                elim (moved f low high a) [ inl q ↦ absurd (other (sym mine ∙ q.0)) | inr q ↦ q.1 ∙ mine ]
          ]

      own : (a : ℕ) → a < N → get_or (set ps high low) (joined f low high a) 0 ≡ joined f low high a
      own a la =
          elim (moved f low high a) [
            | inl q ↦
                ap (λ (x : ℕ). get_or (set ps high low) x 0) q.1 ∙ there N ps parents low high less within low (λ e. omega (arith, e))
                ∙ ap (λ (x : ℕ). get_or ps x 0) (sym lows) ∙ rooted.own low (omega arith) ∙ lows ∙ sym q.1
            | inr q ↦ ap (λ (x : ℕ). get_or (set ps high low) x 0) q.1 ∙ there N ps parents low high less within (f a) q.0 ∙ rooted.own a la ∙ sym q.1
          ]

      down : (a : ℕ) → a < N → joined f low high a ≤ a
      down a la =
          elim (moved f low high a) [
            | inl q ↦ omega (arith, q.0, q.1, rooted.low a la)
            | inr q ↦ omega (arith, q.1, rooted.low a la)
          ]

  -- the head of the class that is left is one of the two heads
  module _ (rs : List Row) (all : length rs ≡ N) (hs : List ℕ) (long : length hs ≡ N) (tops : Tops rs f hs) where
    -- the heads after the join
    abbrev after : List ℕ
    after = set hs low (min (get_or hs low 0) (get_or hs high 0))

    kept : get_or after low 0 ≡ min (get_or hs low 0) (get_or hs high 0)
    kept = let h : low < length hs = omega (arith, long) in rw get_or-set_same

    rest : (a : ℕ) → (a ≡ low → ⊥) → get_or after a 0 ≡ get_or hs a 0
    rest a other = rw get_or-set_other

    one_of : (m n : ℕ) → (min m n ≡ m) ⊎ (min m n ≡ n)
    one_of m n = grind arith

    pub join_tops : Tops rs (joined f low high) after
    join_tops = record { some = some; each = each }
      where
        -- the head of a class that stays, under its own name or a new one
        from : (a c : ℕ) → c < N → f c ≡ c → get_or hs c 0 < length rs → joined f low high c ≡ a → get_or after a 0 ≡ get_or hs c 0 →
            (joined f low high (get_or after a 0) ≡ a) × Compound (row rs (get_or after a 0))
        from a c lc mine some goes reads =
            let t = tops.some c (omega (arith, all)) mine some in
            (ap (joined f low high) reads ∙ join_coarser N f low high (get_or hs c 0) c (omega (arith, all)) lc (t.0 ∙ sym mine) ∙ goes, subst (λ (x : ℕ). Compound (row rs x)) (sym reads) t.1)

        some : (a : ℕ) → a < length rs → joined f low high a ≡ a → get_or after a 0 < length rs →
            (joined f low high (get_or after a 0) ≡ a) × Compound (row rs (get_or after a 0))
        some a la mine small =
            elim (cases_eq a low) [
              | inl same ↦
                  let reads : get_or after a 0 ≡ min (get_or hs low 0) (get_or hs high 0)
                  = ap (λ (x : ℕ). get_or after x 0) same ∙ kept in
                  elim (one_of (get_or hs low 0) (get_or hs high 0)) [
                    | inl first ↦ from a low (omega arith) lows (omega (arith, reads, first)) (ap (joined f low high) (sym same) ∙ mine) (reads ∙ first)
                    | inr second ↦
                        from a high within highs (omega (arith, reads, second))
                        ((elim (moved f low high high) [ inl q ↦ q.1 | inr q ↦ absurd (q.0 highs) ]) ∙ sym same)
                        (reads ∙ second)
                  ]
              | inr other ↦
                  let stays : f a ≡ a = elim (moved f low high a) [ inl q ↦ absurd (other (sym mine ∙ q.1)) | inr q ↦ sym q.1 ∙ mine ] in
                  from a a (omega (arith, all)) stays (omega (arith, rest a other)) mine (rest a other)
            ]

        each : (t : ℕ) → t < length rs → Compound (row rs t) → get_or after (joined f low high t) 0 < length rs
        each t lt compound =
            let had = tops.each t lt compound in
            elim (moved f low high t) [
              | inl q ↦
                  let old : get_or hs (f t) 0 ≡ get_or hs high 0 = ap (λ (x : ℕ). get_or hs x 0) q.0 in
                  let new : get_or after (joined f low high t) 0 ≡ min (get_or hs low 0) (get_or hs high 0)
                  = ap (λ (x : ℕ). get_or after x 0) q.1 ∙ kept in
                  omega arith
              | inr q ↦
                  let same : get_or after (joined f low high t) 0 ≡ get_or after (f t) 0
                  = ap (λ (x : ℕ). get_or after x 0) q.1 in
                  elim (cases_eq (f t) low) [
                    | inl at ↦
                        let old : get_or hs (f t) 0 ≡ get_or hs low 0 = ap (λ (x : ℕ). get_or hs x 0) at in
                        let new : get_or after (f t) 0 ≡ min (get_or hs low 0) (get_or hs high 0)
                        = ap (λ (x : ℕ). get_or after x 0) at ∙ kept in
                        omega arith
                    | inr other ↦ omega (arith, same, rest (f t) other)
                  ]
            ]

-- the lower and the higher of two numbers
either : (x y : ℕ) → ((min x y ≡ x) × (max x y ≡ y)) ⊎ ((min x y ≡ y) × (max x y ≡ x))
either x y = grind arith

pub lower_less : (x y : ℕ) → (x ≡ y → ⊥) → min x y < max x y
lower_less x y apart = grind (arith, apart)

-- what holds of both holds of the lower and the higher
pub of_both : (P : ℕ → Type 0) (x y : ℕ) → P x → P y → P (min x y) × P (max x y)
of_both P x y p q =
    elim (either x y) [
      | inl e ↦ (subst P (sym e.0) p, subst P (sym e.1) q)
      | inr e ↦ (subst P (sym e.0) q, subst P (sym e.1) p)
    ]

-- the classes of two terms made one, the lower of the two that stand for them on top
pub found_joining : (N : ℕ) (f : ℕ → ℕ) (a b x y : ℕ) → a < N → b < N → x ≡ f a → y ≡ f b → (x ≡ y → ⊥) → Joining N f (joined f (min x y) (max x y)) a b
found_joining N f a b x y la lb left right apart =
    let less = lower_less x y apart in
    elim (either x y) [
      | inl e ↦ join_two N f (min x y) (max x y) a b la lb less (sym left ∙ sym e.0) (sym right ∙ sym e.1)
      | inr e ↦ join_turn N f (joined f (min x y) (max x y)) a b (join_two N f (min x y) (max x y) b a lb la less (sym right ∙ sym e.0) (sym left ∙ sym e.1))
    ]
