-- A table that has, for each number below N, the lowest member of its group; what it says of groups and their numbers.
-- Assumes nothing.
use Rattle.std.proofs.Common.{◌≡◌, ℕ, suc, ◌<◌, ◌≤◌, Bool, true, ◌⊎◌, List, get_or, Decides, refl, ◌∙◌, inl, inr, arith}
use Rattle.std.proofs.lemmas.Bool.{eq-eqb, eqb-true}
use Rattle.groups.specs.Groups.{Lowest, GroupNumber}
use Rattle.groups.specs.Tables.{Table, leads, tally, group_of}
use Rattle.groups.proofs.Counts.{tally_counts, tally_same}

under : (m n : ℕ) → m ≤ n → (m < n) ⊎ (m ≡ n)
under m n h = grind arith

module _ (N : ℕ) (Joined : ℕ → ℕ → Type 0) (ls : List ℕ) (table : Table N Joined ls) where
  -- an entry is a number below N that leads its group
  pub entry_below : (i : ℕ) → i < N → get_or ls i 0 < N
  entry_below i h = omega (arith, table.low i h)

  pub entry_leads : (i : ℕ) → i < N → leads ls (get_or ls i 0) ≡ true
  entry_leads i h = eq-eqb (get_or ls (get_or ls i 0) 0) (get_or ls i 0) (table.own i h)

  entry_joined : (i : ℕ) → i < N → Joined (get_or ls i 0) i
  entry_joined i h = (table.agree (get_or ls i 0) i (entry_below i h) h).1 (table.own i h)

  -- where only some numbers are grouped, each with the leader of its group, and the test picks the leaders among them
  module _ (In : ℕ → Type 0) (test : ℕ → Bool) (below : (k : ℕ) → In k → k < N) (shared : (k : ℕ) → In k → In (get_or ls k 0))
      (picks : (k : ℕ) → k < N → Decides (test k) ((leads ls k ≡ true) × In k)) where
    picked_lowest : (m : ℕ) → m < N → test m ≡ true → Lowest In Joined m
    picked_lowest m h passes =
        let picked = (picks m h).0 passes in
        record {
          member = picked.1;
          lowest = λ k less inside j.
              let same : get_or ls k 0 ≡ m = (table.agree k m (below k inside) h).0 j ∙ eqb-true (get_or ls m 0) m picked.0 in
              omega (arith, table.low k (below k inside));
        }

    lowest_picked : (m : ℕ) → Lowest In Joined m → test m ≡ true
    lowest_picked m x =
        let h = below m x.member in
        elim (under (get_or ls m 0) m (table.low m h)) [
          | inl less ↦ absurd (x.lowest (get_or ls m 0) less (shared m x.member) (entry_joined m h))
          | inr same ↦ (picks m h).1 (eq-eqb (get_or ls m 0) m same, x.member)
        ]

    -- each of them is in the group of its number by the table and the test
    pub group_numbered_in : (n : ℕ) → In n → GroupNumber In Joined n (suc (tally test (get_or ls n 0)))
    group_numbered_in n inside =
        let h = below n inside in
        record {
          m = get_or ls n 0;
          lowest = picked_lowest (get_or ls n 0) (entry_below n h) ((picks (get_or ls n 0) (entry_below n h)).1 (entry_leads n h, shared n inside));
          joined = entry_joined n h;
          before = tally test (get_or ls n 0);
          counted = tally_counts (Lowest In Joined) test (get_or ls n 0)
              (λ k less. (picked_lowest k (omega (arith, entry_below n h)), lowest_picked k));
          number = refl;
        }

  -- where all numbers below N are grouped, the test is that a number leads
  every : (k : ℕ) → k < N → Decides (leads ls k) ((leads ls k ≡ true) × (k < N))
  every k h = (λ l. (l, h), λ p. p.0)

  -- those that lead are the lowest members of their groups, and no others are
  leads_lowest : (m : ℕ) → m < N → leads ls m ≡ true → Lowest (λ k. k < N) Joined m
  leads_lowest = picked_lowest (λ k. k < N) (leads ls) (λ k h. h) entry_below every

  lowest_leads : (m : ℕ) → Lowest (λ k. k < N) Joined m → leads ls m ≡ true
  lowest_leads = lowest_picked (λ k. k < N) (leads ls) (λ k h. h) entry_below every

  -- each number below N is in the group of its number by the table
  pub group_numbered : (n : ℕ) → n < N → GroupNumber (λ k. k < N) Joined n (group_of ls n)
  group_numbered = group_numbered_in (λ k. k < N) (leads ls) (λ k h. h) entry_below every

  -- joined numbers have one group number, and others have two
  pub group_agrees : (i j : ℕ) → i < N → j < N → group_of ls i ≡ group_of ls j → get_or ls i 0 ≡ get_or ls j 0
  group_agrees i j h k same =
      tally_same (leads ls) (get_or ls i 0) (get_or ls j 0) (entry_leads i h) (entry_leads j k) (omega arith)
