-- A table of lowest members, and the number of each number's group by it. Assumes nothing.
use Rattle.std.specs.Prelude.{◌≡◌, ℕ, zero, suc, ◌<◌, ◌≤◌, Bool, cond, ◌↔◌, List, ◌==◌, slice_index}

-- For each number below N the table ls has the lowest member of its group, so two numbers are joined exactly when their
-- entries agree.
pub record Table (N : ℕ) (Joined : ℕ → ℕ → Type 0) (ls : List ℕ) : Type 0 where
  pub low : (i : ℕ) → i < N → slice_index ls i ≤ i
  pub own : (i : ℕ) → i < N → slice_index ls (slice_index ls i) ≡ slice_index ls i
  pub agree : (i j : ℕ) → i < N → j < N → Joined i j ↔ (slice_index ls i ≡ slice_index ls j)

-- Whether n leads its group: its entry is itself.
abbrev pub leads : List ℕ → ℕ → Bool
leads ls n = slice_index ls n == n

-- How many numbers below n pass the test.
abbrev pub tally : (ℕ → Bool) → ℕ → ℕ
tally test zero = 0
tally test (suc n) = cond (test n) (suc (tally test n)) (tally test n)

-- The number of n's group: one more than the leaders below its own.
abbrev pub group_of : List ℕ → ℕ → ℕ
group_of ls n = suc (tally (leads ls) (slice_index ls n))
