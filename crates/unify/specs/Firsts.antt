-- The first of the numbers with each key. Assumes nothing.
use Rattle.std.specs.Prelude.{◌≡◌, ℕ, ◌<◌, ◌≤◌, cond, List, length, nat_lt, slice_index, slice_set}

-- Of the numbers below n that have the property P, the list L has at each key below N the first one with that key, by g, and no
-- number below N where there is none.
pub record Firsts (P : ℕ → Type 0) (g : ℕ → ℕ) (N n : ℕ) (L : List ℕ) : Type 0 where
  pub some : (k : ℕ) → k < N → slice_index L k < N → (slice_index L k < n) × P (slice_index L k) × (g (slice_index L k) ≡ k)
  pub least : (x : ℕ) → x < n → P x → slice_index L (g x) ≤ x

-- The list with a at the key k, unless a number stands there.
abbrev pub noted : List ℕ → ℕ → ℕ → List ℕ
noted L k a = cond (nat_lt (slice_index L k) (length L)) L (slice_set L k a)
