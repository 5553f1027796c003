-- A dead end leaves no world, and where no rule is open the freest world meets all. Assumes nothing.
use mathlib.Core.Path.{◌≡◌, refl, subst, sym}
use mathlib.Core.List.{List, [], ◌∷◌}
use mathlib.Core.Logic.{inl, inr}
use Prim.Native.Nat.{ℕ}
use native.Mathlib.Omega.{arith}
use lib.ListN.{get_or}
use Rattle.logic.specs.Trees.{World}
use Rattle.logic.specs.Theories.{Theory, AllTrue, FreestAt}
use Rattle.logic.specs.declared.Equation.{Equation}
use Rattle.rules.specs.declared.Literal.{Literal}
use Rattle.rules.specs.declared.Literal.TheVariants as V
use Rattle.rules.specs.Rules.{equations, denied, Meets, MeetsAll, Had, HadAll}
use Rattle.rules.specs.Openness.{AllForced, Settled, AllSettled}
use Rattle.rules.specs.Walks.{End, Walk, Tries}
use Rattle.rules.specs.Walks.End.{found, dead, spent}
use Rattle.rules.specs.Walks.Walk.{settled, takes}
use Rattle.rules.specs.Walks.Tries.{tried, spends, clashes, returns, finds, runs_out}
use Rattle.logic.proofs.Trues.{all_push}

abbrev pub NoneTrue : Theory → World → List Equation → Type 0
NoneTrue t w [] = Unit {0}
NoneTrue t w (e ∷ es) = (t.holds w e → ⊥) × NoneTrue t w es

pub found≢dead : (C : List Equation) → found C ≡ dead → ⊥
found≢dead C e = let z : ◌≡◌ {A = ℕ} 0 1 = cc in omega arith

pub spent≢dead : spent ≡ dead → ⊥
spent≢dead e = let z : ◌≡◌ {A = ℕ} 0 1 = cc in omega arith

pub found≢spent : (C : List Equation) → found C ≡ spent → ⊥
found≢spent C e = let z : ◌≡◌ {A = ℕ} 0 1 = cc in omega arith

pub dead≢spent : dead ≡ spent → ⊥
dead≢spent e = let z : ◌≡◌ {A = ℕ} 0 1 = cc in omega arith

module _ (t : Theory) (w : World) where
  forced_true : (S es : List Equation) → t.own w → AllTrue t w S → AllForced t S es → AllTrue t w es
  forced_true S [] own all f = tt
  forced_true S (e ∷ es) own all f = (f.0.1 w own all, forced_true S es own all f.1)

  fails : (r : List Literal) → AllTrue t w (denied r) → NoneTrue t w (equations r) → Meets t w r → ⊥
  fails [] d n m = m
  fails (V.Equal e ∷ r) d n (inl h) = n.0 h
  fails (V.Equal e ∷ r) d n (inr m) = fails r d n.1 m
  fails (V.Denied e ∷ r) d n (inl h) = h d.0
  fails (V.Denied e ∷ r) d n (inr m) = fails r d.1 n m

  module _ (R : List (List Literal)) (b : ℕ) (own : t.own w) (met : MeetsAll t w R) where
    mutual
      pub dead_walk : {S : List Equation} {n m : ℕ} {o : End} → Walk t R b S n m o → o ≡ dead → AllTrue t w S → ⊥
      dead_walk (settled {S = S} nope) e all = found≢dead S e
      dead_walk (takes {S = S} k p ts) e all =
          fails (get_or R k []) (forced_true S (denied (get_or R k [])) own all p.opens.0) (dead_tries ts e all) (met k p.within)

      pub dead_tries : {S es : List Equation} {n m : ℕ} {o : End} → Tries t R b S es n m o → o ≡ dead → AllTrue t w S → NoneTrue t w es
      dead_tries tried e all = tt
      dead_tries (spends p) e all = absurd (spent≢dead e)
      dead_tries (clashes p c ts) e all = (λ h. c w own all h, dead_tries ts e all)
      dead_tries (returns {S = S} {e = x} p c v ts) e all =
          (λ h. dead_walk v refl (all_push t w S x all h), dead_tries ts e all)
      dead_tries (finds {C = C} p c v) e all = absurd (found≢dead C e)
      dead_tries (runs_out p c v) e all = absurd (spent≢dead e)

module _ (t : Theory) (R : List (List Literal)) (b : ℕ) where
  mutual
    pub settled_walk : {S : List Equation} {n m : ℕ} {o : End} → Walk t R b S n m o → (C : List Equation) → o ≡ found C → AllSettled t C R
    settled_walk (settled {S = S} nope) C e =
        let same : S ≡ C = cc in let P : List Equation → Type 0 = λ X. AllSettled t X R in subst P same nope
    settled_walk (takes k p ts) C e = settled_tries ts C e

    pub settled_tries : {S es : List Equation} {n m : ℕ} {o : End} → Tries t R b S es n m o → (C : List Equation) → o ≡ found C → AllSettled t C R
    settled_tries tried C e = absurd (found≢dead C (sym e))
    settled_tries (spends p) C e = absurd (found≢spent C (sym e))
    settled_tries (clashes p c ts) C e = settled_tries ts C e
    settled_tries (returns p c v ts) C e = settled_tries ts C e
    settled_tries (finds p c v) C e = settled_walk v C e
    settled_tries (runs_out p c v) C e = absurd (found≢spent C (sym e))

-- a freest world meets every rule that is settled
module _ (t : Theory) (C : List Equation) (w : World) (f : FreestAt t C w) where
  met_by : (r : List Literal) → Had t r → Settled t C r → Meets t w r
  met_by [] had s = s
  met_by (V.Equal e ∷ r) had (inl g) = inl (g.1 w f.own f.all)
  met_by (V.Equal e ∷ r) had (inr s) = inr (met_by r (had.0.1, had.1) s)
  met_by (V.Denied e ∷ r) had (inl g) = inl (λ h. g (f.free e had.1.0 h))
  met_by (V.Denied e ∷ r) had (inr s) = inr (met_by r (had.0, had.1.1) s)

  pub met_all : (R : List (List Literal)) → HadAll t R → AllSettled t C R → MeetsAll t w R
  met_all R had all k within = met_by (get_or R k []) (had k within) (all k within)
