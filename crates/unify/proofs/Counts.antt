-- Tallies of two tests, and how many classes are left. Assumes nothing.
use Rattle.std.proofs.Common.{◌≡◌, ℕ, zero, suc, ◌<◌, ◌≤◌, Bool, true, false, cond, sym, ap, ◌∙◌, inl, inr, arith}
use Rattle.std.proofs.lemmas.Bool.{cases_eq}
use Rattle.groups.specs.Tables.{tally}
use Rattle.unify.proofs.Lists.{never}

step_le : (b c : Bool) (m n : ℕ) → (b ≡ true → c ≡ true) → m ≤ n → cond b (suc m) m ≤ cond c (suc n) n
step_le true true m n h less = omega arith
step_le true false m n h less = never (h (let z : true ≡ true = cc in z))
step_le false true m n h less = omega arith
step_le false false m n h less = omega arith

step_less : (b c : Bool) (m n : ℕ) → (b ≡ true → c ≡ true) → m < n → cond b (suc m) m < cond c (suc n) n
step_less true true m n h less = omega arith
step_less true false m n h less = never (h (let z : true ≡ true = cc in z))
step_less false true m n h less = omega arith
step_less false false m n h less = omega arith

-- what passes the first test passes the second: no more pass the first
pub tally_le : (p q : ℕ → Bool) (n : ℕ) → ((i : ℕ) → i < n → p i ≡ true → q i ≡ true) → tally p n ≤ tally q n
tally_le p q zero h = omega arith
tally_le p q (suc n) h = step_le (p n) (q n) (tally p n) (tally q n) (h n (omega arith)) (tally_le p q n (λ i l. h i (omega arith)))

-- and fewer, where one number passes only the second
pub tally_less : (p q : ℕ → Bool) (n k : ℕ) → k < n → ((i : ℕ) → i < n → p i ≡ true → q i ≡ true) → p k ≡ false → q k ≡ true → tally p n < tally q n
tally_less p q zero k l h fails passes = absurd (omega arith)
tally_less p q (suc n) k l h fails passes =
    elim (cases_eq k n) [
      | inl same ↦
          let here : p n ≡ false = ap p (sym same) ∙ fails in
          let there : q n ≡ true = ap q (sym same) ∙ passes in
          let below = tally_le p q n (λ i j. h i (omega arith)) in
          rw (here, there) (omega arith)
      | inr other ↦ step_less (p n) (q n) (tally p n) (tally q n) (h n (omega arith)) (tally_less p q n k (omega arith) (λ i j. h i (omega arith)) fails passes)
    ]

-- one test under two names
pub tally_same : (p q : ℕ → Bool) (n : ℕ) → ((i : ℕ) → i < n → p i ≡ q i) → tally p n ≡ tally q n
tally_same p q n h =
    let there = tally_le p q n (λ i l passes. sym (h i l) ∙ passes) in
    let back = tally_le q p n (λ i l passes. h i l ∙ passes) in
    omega arith
