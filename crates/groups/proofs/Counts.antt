-- Counting the numbers below a bound that pass a test. Assumes nothing.
use Rattle.std.proofs.Common.{◌≡◌, ℕ, zero, suc, ◌+◌, ◌<◌, ◌≤◌, Bool, true, false, cond, ◌⊎◌, Decides, refl, ap, inl, inr, add-one, arith}
use Rattle.std.proofs.lemmas.Bool.{false≢true, cases_order}
use Rattle.groups.specs.Groups.{Count}
use Rattle.groups.specs.Tables.{tally}
use Rattle.groups.specs.Groups.Count.{start, has, lacks}

count_next : (P : ℕ → Type 0) (n t : ℕ) (b : Bool) → Decides b (P n) → Count P n t → Count P (suc n) (cond b (suc t) t)
count_next P n t true d below = has below (d.0 refl)
count_next P n t false d below = lacks below (λ p. false≢true (d.1 p))

-- where the test decides P, the tally is the count
pub tally_counts : (P : ℕ → Type 0) (test : ℕ → Bool) (n : ℕ) → ((k : ℕ) → k < n → Decides (test k) (P k)) → Count P n (tally test n)
tally_counts P test zero decides = start
tally_counts P test (suc n) decides =
    count_next P n (tally test n) (test n) (decides n (omega arith)) (tally_counts P test n (λ k h. decides k (omega arith)))

-- one number more
pub tally_yes : (test : ℕ → Bool) (n : ℕ) → test n ≡ true → tally test (n + 1) ≡ suc (tally test n)
tally_yes test n passes = rw add-one (ap (λ b. cond b (suc (tally test n)) (tally test n)) passes)

pub tally_no : (test : ℕ → Bool) (n : ℕ) → test n ≡ false → tally test (n + 1) ≡ tally test n
tally_no test n fails = rw add-one (ap (λ b. cond b (suc (tally test n)) (tally test n)) fails)

-- there is one count
pub count_single : (P : ℕ → Type 0) (n : ℕ) {c d : ℕ} → Count P n c → Count P n d → c ≡ d
count_single P zero start start = refl
count_single P (suc n) (has x p) (has y q) = ap suc (count_single P n x y)
count_single P (suc n) (has x p) (lacks y q) = absurd (q p)
count_single P (suc n) (lacks x p) (has y q) = absurd (p q)
count_single P (suc n) (lacks x p) (lacks y q) = count_single P n x y

-- the tally grows with the bound, and at each number that passes
step_grows : (b : Bool) (t : ℕ) → t ≤ cond b (suc t) t
step_grows true t = omega arith
step_grows false t = omega arith

up_to : (m n : ℕ) → m ≤ suc n → (m ≤ n) ⊎ (m ≡ suc n)
up_to m n h = grind arith

pub tally_grows : (test : ℕ → Bool) (m n : ℕ) → m ≤ n → tally test m ≤ tally test n
tally_grows test m zero h = omega (arith, ap (tally test) (let z : m ≡ 0 = omega arith in z))
tally_grows test m (suc n) h =
    elim (up_to m n h) [
      | inl less ↦ omega (arith, tally_grows test m n less, step_grows (test n) (tally test n))
      | inr same ↦ omega (arith, ap (tally test) same)
    ]

pub tally_passes : (test : ℕ → Bool) (m n : ℕ) → test m ≡ true → m < n → tally test m < tally test n
tally_passes test m n passes h =
    let here : tally test (suc m) ≡ suc (tally test m) = ap (λ b. cond b (suc (tally test m)) (tally test m)) passes in
    omega (arith, here, tally_grows test (suc m) n h)

-- so numbers that pass and have one tally are one
pub tally_same : (test : ℕ → Bool) (m n : ℕ) → test m ≡ true → test n ≡ true → tally test m ≡ tally test n → m ≡ n
tally_same test m n first second same =
    elim (cases_order m n) [
      | inl e ↦ e
      | inr (inl less) ↦ absurd (omega (arith, tally_passes test m n first less))
      | inr (inr more) ↦ absurd (omega (arith, tally_passes test n m second more))
    ]

-- the tally is no more than the bound
step_within : (b : Bool) (t : ℕ) → cond b (suc t) t ≤ suc t
step_within true t = omega arith
step_within false t = omega arith

pub tally_within : (test : ℕ → Bool) (n : ℕ) → tally test n ≤ n
tally_within test zero = omega arith
tally_within test (suc n) = omega (arith, step_within (test n) (tally test n), tally_within test n)
