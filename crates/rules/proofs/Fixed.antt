-- A walk has one outcome, after one number of trials. Assumes nothing.
use mathlib.Core.Path.{◌≡◌, refl, sym, subst}
use mathlib.Core.List.{List, []}
use Prim.Native.Nat.{ℕ, ◌<◌, ◌≤◌}
use native.Mathlib.Omega.{arith}
use lib.ListN.{get_or}
use Rattle.logic.specs.Theories.{Theory}
use Rattle.logic.specs.declared.Equation.{Equation}
use Rattle.rules.specs.declared.Literal.{Literal}
use Rattle.rules.specs.Rules.{equations}
use Rattle.rules.specs.Openness.{TakenRule}
use Rattle.rules.specs.Walks.{End, Walk, Tries}
use Rattle.rules.specs.Walks.End.{found, dead, spent}
use Rattle.rules.specs.Walks.Walk.{settled, takes}
use Rattle.rules.specs.Walks.Tries.{tried, spends, clashes, returns, finds, runs_out}
use Rattle.rules.proofs.Basics.{settled_shut}
use Rattle.rules.proofs.Sound.{found≢dead, spent≢dead, found≢spent, dead≢spent}

-- no two rules are taken
pub taken_one : (t : Theory) (S : List Equation) (R : List (List Literal)) (k j : ℕ) → TakenRule t S R k → TakenRule t S R j → k ≡ j
taken_one t S R k j p q =
    let a = p.fewest j q.within q.opens in
    let b = q.fewest k p.within p.opens in
    let not-less : k < j → ⊥ = λ h. let c = q.earliest k h p.opens in omega arith in
    let not_more : j < k → ⊥ = λ h. let c = p.earliest j h q.opens in omega arith in
    omega arith

module _ (t : Theory) (R : List (List Literal)) (b : ℕ) where
  mutual
    pub one_walk : {S : List Equation} {n m : ℕ} {o : End} → Walk t R b S n m o → (m' : ℕ) (o' : End) → Walk t R b S n m' o' → (m ≡ m') × (o ≡ o')
    one_walk (settled none) m' o' (settled none') = (refl, refl)
    one_walk (settled {S = S} none) m' o' (takes k p ts) = absurd (settled_shut t S (get_or R k []) (none k p.within) p.opens)
    one_walk (takes k p ts) m' o' (settled {S = S} none) = absurd (settled_shut t S (get_or R k []) (none k p.within) p.opens)
    one_walk (takes {S = S} {n = n} k p ts) m' o' (takes j q us) =
        let P : ℕ → Type 0 = λ i. Tries t R b S (equations (get_or R i [])) n m' o' in
        one_tries ts m' o' (subst P (sym (taken_one t S R k j p q)) us)

    pub one_tries : {S es : List Equation} {n m : ℕ} {o : End} → Tries t R b S es n m o → (m' : ℕ) (o' : End) → Tries t R b S es n m' o' → (m ≡ m') × (o ≡ o')
    one_tries tried m' o' tried = (refl, refl)
    one_tries (spends p) m' o' (spends q) = (refl, refl)
    one_tries (spends p) m' o' (clashes q c us) = absurd (omega arith)
    one_tries (spends p) m' o' (returns q c v us) = absurd (omega arith)
    one_tries (spends p) m' o' (finds q c v) = absurd (omega arith)
    one_tries (spends p) m' o' (runs_out q c v) = absurd (omega arith)
    one_tries (clashes p c ts) m' o' (spends q) = absurd (omega arith)
    one_tries (clashes p c ts) m' o' (clashes q d us) = one_tries ts m' o' us
    one_tries (clashes p c ts) m' o' (returns q d v us) = absurd (d c)
    one_tries (clashes p c ts) m' o' (finds q d v) = absurd (d c)
    one_tries (clashes p c ts) m' o' (runs_out q d v) = absurd (d c)
    one_tries (returns p c v ts) m' o' (spends q) = absurd (omega arith)
    one_tries (returns p c v ts) m' o' (clashes q d us) = absurd (c d)
    one_tries (returns {S = S} {es = es} p c v ts) m' o' (returns {p = x} q d w us) =
        let same = (one_walk v x dead w).0 in
        let P : ℕ → Type 0 = λ i. Tries t R b S es i m' o' in
        one_tries ts m' o' (subst P (sym same) us)
    one_tries (returns p c v ts) m' o' (finds {C = C} q d w) = absurd (found≢dead C (sym (one_walk v m' (found C) w).1))
    one_tries (returns p c v ts) m' o' (runs_out q d w) = absurd (dead≢spent (one_walk v m' spent w).1)
    one_tries (finds p c v) m' o' (spends q) = absurd (omega arith)
    one_tries (finds p c v) m' o' (clashes q d us) = absurd (c d)
    one_tries (finds {C = C} p c v) m' o' (returns {p = x} q d w us) = absurd (found≢dead C (one_walk v x dead w).1)
    one_tries (finds p c v) m' o' (finds {C = C} q d w) = one_walk v m' (found C) w
    one_tries (finds {C = C} p c v) m' o' (runs_out q d w) = absurd (found≢spent C (one_walk v m' spent w).1)
    one_tries (runs_out p c v) m' o' (spends q) = absurd (omega arith)
    one_tries (runs_out p c v) m' o' (clashes q d us) = absurd (c d)
    one_tries (runs_out p c v) m' o' (returns {p = x} q d w us) = absurd (spent≢dead (one_walk v x dead w).1)
    one_tries (runs_out p c v) m' o' (finds {C = C} q d w) = absurd (found≢spent C (sym (one_walk v m' (found C) w).1))
    one_tries (runs_out p c v) m' o' (runs_out q d w) = one_walk v m' spent w

module _ (t : Theory) (R : List (List Literal)) (b c : ℕ) where
  -- trials are counted up
  mutual
    pub up_walk : {S : List Equation} {n m : ℕ} {o : End} → Walk t R b S n m o → n ≤ m
    up_walk (settled none) = omega arith
    up_walk (takes k p ts) = up_tries ts

    pub up_tries : {S es : List Equation} {n m : ℕ} {o : End} → Tries t R b S es n m o → n ≤ m
    up_tries tried = omega arith
    up_tries (spends p) = omega arith
    up_tries (clashes p d ts) = let h = up_tries ts in omega arith
    up_tries (returns p d v ts) = let h = up_tries ts in let k = up_walk v in omega arith
    up_tries (finds p d v) = let k = up_walk v in omega arith
    up_tries (runs_out p d v) = let k = up_walk v in omega arith

  -- another budget that the trials fit gives the same walk
  mutual
    pub other_walk : {S : List Equation} {n m : ℕ} {o : End} → Walk t R b S n m o → (o ≡ spent → ⊥) → m ≤ c → Walk t R c S n m o
    other_walk (settled none) f h = settled none
    other_walk (takes k p ts) f h = takes k p (other_tries ts f h)

    pub other_tries : {S es : List Equation} {n m : ℕ} {o : End} → Tries t R b S es n m o → (o ≡ spent → ⊥) → m ≤ c → Tries t R c S es n m o
    other_tries tried f h = tried
    other_tries (spends p) f h = absurd (f refl)
    other_tries (clashes p d ts) f h = let k = up_tries ts in clashes (omega arith) d (other_tries ts f h)
    other_tries (returns p d v ts) f h =
        let k = up_tries ts in let j = up_walk v in returns (omega arith) d (other_walk v dead≢spent (omega arith)) (other_tries ts f h)
    other_tries (finds {C = C} p d v) f h = let j = up_walk v in finds (omega arith) d (other_walk v (found≢spent C) h)
    other_tries (runs_out p d v) f h = absurd (f refl)
