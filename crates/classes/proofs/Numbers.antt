-- Free and bound names by a settled table, and the groups of the free names. Assumes nothing.
use Rattle.std.proofs.Common.{◌≡◌, ℕ, suc, ◌<◌, ◌≤◌, ◌&&◌, ltb, List, length, get_or, Decides, sym, subst, inl, inr, arith}
use mathlib.Core.HLevel.{hedberg}
use native.Mathlib.Bridge.{le_prop}
use native.Mathlib.Decide.{ℕ_discrete}
use Rattle.std.proofs.lemmas.Bool.{cases_lt, ltb-false, le-ltb, not-true, not_from_false}
use Rattle.std.proofs.lemmas.Bool.Decides.{Decides-and}
use Rattle.logic.specs.declared.Equation.{Equation}
use Rattle.groups.specs.Groups.{GroupNumber}
use Rattle.groups.specs.Tables.{Table, leads}
use Rattle.groups.proofs.Counts.{tally_within}
use Rattle.groups.proofs.Tables.{group_numbered_in}
use Rattle.terms.specs.Sheets.{Row, row, Sheet}
use Rattle.terms.specs.Trees.{ForcedEqual, Bound, Free}
use Rattle.terms.proofs.Rows.{row_set, compound_prop}
use Rattle.classes.specs.Classes.{class, Settled}
use Rattle.classes.specs.Worlds.{unbound, free_group}
use Rattle.classes.proofs.Free.{class_below, head_class, headless_name}
use Rattle.classes.proofs.Decides.{from_both, forced_class}

-- a group has a number no higher than its lowest member's place
pub group_bound : (rs : List Row) (ls hs : List ℕ) (n : ℕ) → free_group rs ls hs n ≤ suc (class ls n)
group_bound rs ls hs n = omega (arith, tally_within (λ m. leads ls m && unbound rs ls hs m) (class ls n))

module _ (ar : List ℕ) (rs : List Row) (es : List Equation) (ls hs : List ℕ) (sheets : ∥ Sheet ar rs ∥₁) (settleds : ∥ Settled rs es ls hs ∥₁) where
  abbrev head : ℕ → ℕ
  head a = get_or hs (class ls a) 0

  -- the table has the lowest members of the groups of forced-equal terms
  pub settled_table : Table (length rs) (ForcedEqual ar rs es) ls
  settled_table =
      record {
        low = λ i h. from_both ar rs es ls hs sheets settleds le_prop (λ sheet settled. settled.lowest.low i h);
        own = λ i h. from_both ar rs es ls hs sheets settleds (hedberg ℕ_discrete (class ls (class ls i)) (class ls i))
            (λ sheet settled. settled.lowest.own i h);
        agree = forced_class ar rs es ls hs sheets settleds;
      }

  -- the head of a class is forced equal to its members
  pub head_bound : (n : ℕ) → n < length rs → head n < length rs → Bound ar rs es n (head n)
  head_bound n h k =
      record {
        term = k;
        compound = from_both ar rs es ls hs sheets settleds (compound_prop (row rs (head n)))
            (λ sheet settled. (settled.heads.some (class ls n) (class_below ar rs es ls hs sheet settled n h) k).1);
        equal = (forced_class ar rs es ls hs sheets settleds (head n) n k h).1
            (from_both ar rs es ls hs sheets settleds (hedberg ℕ_discrete (class ls (head n)) (class ls n))
            (λ sheet settled. head_class ar rs es ls hs sheet settled n h k));
      }

  -- there is no lower compound term that is
  pub head_lowest : (n t : ℕ) → n < length rs → Bound ar rs es n t → head n ≤ t
  head_lowest n t h bound =
      let same : class ls t ≡ class ls n = (forced_class ar rs es ls hs sheets settleds t n bound.term h).0 bound.equal in
      from_both ar rs es ls hs sheets settleds le_prop
      (λ sheet settled. subst (λ (c : ℕ). get_or hs c 0 ≤ t) same (settled.heads.each t bound.term bound.compound))

  -- the class of a free name has no head
  pub free_headless : (n : ℕ) → Free ar rs es n → length rs ≤ head n
  free_headless n free =
      elim (cases_lt (head n) (length rs)) [
        | inl k ↦ absurd (free.unbound (head n) (head_bound n free.name.0 k))
        | inr k ↦ k
      ]

  -- and a term of a class with no head is a free name
  pub headless_free : (n : ℕ) → n < length rs → length rs ≤ head n → Free ar rs es n
  headless_free n h k =
      record {
        name = (h, from_both ar rs es ls hs sheets settleds (row_set (row rs n) Row.name) (λ sheet settled. headless_name ar rs es ls hs sheet settled n h k));
        unbound = λ t bound. omega (arith, head_lowest n t h bound, bound.term);
      }

  free_decides : (n : ℕ) → n < length rs → Decides (unbound rs ls hs n) (Free ar rs es n)
  free_decides n h = (
    λ passes. headless_free n h (ltb-false (head n) (length rs) (not-true (ltb (head n) (length rs)) passes)),
    λ free. not_from_false (ltb (head n) (length rs)) (le-ltb (head n) (length rs) (free_headless n free)),
  )

  free_shared : (n : ℕ) → Free ar rs es n → Free ar rs es (class ls n)
  free_shared n free =
      let h = free.name.0 in
      headless_free (class ls n) (omega (arith, settled_table.low n h))
      (subst (λ (c : ℕ). length rs ≤ get_or hs c 0) (sym (settled_table.own n h)) (free_headless n free))

  -- each free name is in the group of its number by the table
  pub free_numbered : (n : ℕ) → Free ar rs es n → GroupNumber (Free ar rs es) (ForcedEqual ar rs es) n (free_group rs ls hs n)
  free_numbered =
      group_numbered_in (length rs) (ForcedEqual ar rs es) ls settled_table (Free ar rs es) (λ m. leads ls m && unbound rs ls hs m)
      (λ k free. free.name.0) free_shared
      (λ k h. Decides-and (leads ls k) (unbound rs ls hs k) (λ x. x, λ x. x) (free_decides k h))
