-- Numbers in groups, and the number of a group. Assumes nothing.
-- `In n` says that n is one of the numbers that are grouped, and `Joined a b` that a and b are in one group.
use Rattle.std.specs.Prelude.{◌≡◌, ℕ, suc, ◌<◌}

-- m is the lowest member of its group.
pub record Lowest (In : ℕ → Type 0) (Joined : ℕ → ℕ → Type 0) (m : ℕ) : Type 0 where
  pub member : In m
  pub lowest : (k : ℕ) → k < m → In k → Joined k m → ⊥

-- Exactly c of the numbers below n have the property P.
pub data Count (P : ℕ → Type 0) : ℕ → ℕ → Type 0 where
  start : Count P 0 0
  has : {n c : ℕ} → Count P n c → P n → Count P (suc n) (suc c)
  lacks : {n c : ℕ} → Count P n c → (P n → ⊥) → Count P (suc n) c

-- n is in the i-th group, counted from 1 by lowest member: m is the lowest member of its group, and i - 1 groups have
-- a lower one.
pub record GroupNumber (In : ℕ → Type 0) (Joined : ℕ → ℕ → Type 0) (n i : ℕ) : Type 0 where
  pub m : ℕ
  pub lowest : Lowest In Joined m
  pub joined : Joined m n
  pub before : ℕ
  pub counted : Count (Lowest In Joined) m before
  pub number : i ≡ suc before
