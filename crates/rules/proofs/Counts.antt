-- How many trials a walk makes, and how many choices it comes out with. Each level of a walk uses another rule:
-- once an equation of a rule stands, the rule is not open. Assumes nothing.
use mathlib.Core.Path.{◌≡◌, refl, sym, ap, ◌∙◌}
use mathlib.Core.Bool.{Bool, true, false}
use mathlib.Core.List.{List, [], ◌∷◌, ◌++◌}
use mathlib.Core.Logic.{inl, inr}
use Prim.Native.Nat.{ℕ, zero, suc, ◌+◌, ◌*◌, ◌<◌, ◌≤◌}
use native.Mathlib.Nat.{mul_left_comm, add-mul, one-mul, zero-mul}
use native.Mathlib.Numerals.{one-add}
use native.Mathlib.Omega.{arith}
use lib.ListN.{length, get_or, length-append}
use Rattle.logic.specs.Theories.{Theory}
use Rattle.logic.specs.declared.Equation.{Equation}
use Rattle.rules.specs.declared.Literal.{Literal}
use Rattle.rules.specs.Rules.{equations, width, product, AllHad, HadAll}
use Rattle.rules.specs.Openness.{NoneForced}
use Rattle.rules.specs.Walks.{End, Walk, Tries}
use Rattle.rules.specs.Walks.End.{found, dead, spent}
use Rattle.rules.specs.Walks.Walk.{settled, takes}
use Rattle.rules.specs.Walks.Tries.{tried, spends, clashes, returns, finds, runs_out}
use Rattle.rules.specs.Marks.{Used, unused_product, unused, mark}
use Rattle.rules.proofs.Basics.{In, forced_last, none_less, none_at, had_at}

pub product_none : (R : List (List Literal)) → unused_product [] R ≡ product R
product_none [] = refl
product_none (r ∷ R) = ap (λ n. (1 + width r) * n) (product_none R)

pub unused_none : (R : List (List Literal)) → unused [] R ≡ length R
unused_none [] = refl
unused_none (r ∷ R) = ap suc (unused_none R)

pub times : (w p : ℕ) → (1 + w) * p ≡ p + w * p
times w p = add-mul 1 w p ∙ ap (λ n. n + w * p) (one-mul p)

pub times_suc : (w p : ℕ) → suc w * p ≡ p + w * p
times_suc w p = ap (λ n. n * p) (sym (one-add w)) ∙ times w p

pub product_positive : (ms : List Bool) (R : List (List Literal)) → 1 ≤ unused_product ms R
product_positive ms [] = omega arith
product_positive [] (r ∷ R) = omega (arith, times (width r) (unused_product [] R), product_positive [] R)
product_positive (true ∷ ms) (r ∷ R) = product_positive ms R
product_positive (false ∷ ms) (r ∷ R) = omega (arith, times (width r) (unused_product ms R), product_positive ms R)

-- where no rule is marked, none has to be used
pub used_nil : (t : Theory) (S : List Equation) (R : List (List Literal)) → Used t S [] R
used_nil t S [] = tt
used_nil t S (r ∷ R) = tt

module _ (t : Theory) (S : List Equation) where
  pub used_more : (x : Equation) (ms : List Bool) (R : List (List Literal)) → Used t S ms R → Used t (S ++ (x ∷ [])) ms R
  used_more x ms [] u = tt
  used_more x [] (r ∷ R) u = tt
  used_more x (true ∷ ms) (r ∷ R) u = (λ nope. u.0 (none_less t S x (equations r) nope), used_more x ms R u.1)
  used_more x (false ∷ ms) (r ∷ R) u = used_more x ms R u

  pub used_mark : (ms : List Bool) (R : List (List Literal)) (k : ℕ) → Used t S ms R → (NoneForced t S (equations (get_or R k [])) → ⊥) → Used t S (mark ms k) R
  used_mark ms [] k u f = tt
  used_mark [] (r ∷ R) zero u f = (f, used_nil t S R)
  used_mark [] (r ∷ R) (suc k) u f = used_mark [] R k (used_nil t S R) f
  used_mark (true ∷ ms) (r ∷ R) zero u f = (f, u.1)
  used_mark (true ∷ ms) (r ∷ R) (suc k) u f = (u.0, used_mark ms R k u.1 f)
  used_mark (false ∷ ms) (r ∷ R) zero u f = (f, u)
  used_mark (false ∷ ms) (r ∷ R) (suc k) u f = used_mark ms R k u f

  pub product_mark : (ms : List Bool) (R : List (List Literal)) (k : ℕ) → k < length R → Used t S ms R → NoneForced t S (equations (get_or R k [])) →
      unused_product ms R ≡ (1 + width (get_or R k [])) * unused_product (mark ms k) R
  product_mark ms [] k h u f = absurd (omega arith)
  product_mark [] (r ∷ R) zero h u f = refl
  product_mark [] (r ∷ R) (suc k) h u f =
      ap (λ n. (1 + width r) * n) (product_mark [] R k (omega arith) (used_nil t S R) f) ∙ mul_left_comm (1 + width r) (1 + width (get_or R k [])) (unused_product (mark [] k) R)
  product_mark (true ∷ ms) (r ∷ R) zero h u f = absurd (u.0 f)
  product_mark (true ∷ ms) (r ∷ R) (suc k) h u f = product_mark ms R k (omega arith) u.1 f
  product_mark (false ∷ ms) (r ∷ R) zero h u f = refl
  product_mark (false ∷ ms) (r ∷ R) (suc k) h u f =
      ap (λ n. (1 + width r) * n) (product_mark ms R k (omega arith) u f) ∙ mul_left_comm (1 + width r) (1 + width (get_or R k [])) (unused_product (mark ms k) R)

  pub unused_mark : (ms : List Bool) (R : List (List Literal)) (k : ℕ) → k < length R → Used t S ms R → NoneForced t S (equations (get_or R k [])) →
      unused ms R ≡ suc (unused (mark ms k) R)
  unused_mark ms [] k h u f = absurd (omega arith)
  unused_mark [] (r ∷ R) zero h u f = refl
  unused_mark [] (r ∷ R) (suc k) h u f = ap suc (unused_mark [] R k (omega arith) (used_nil t S R) f)
  unused_mark (true ∷ ms) (r ∷ R) zero h u f = absurd (u.0 f)
  unused_mark (true ∷ ms) (r ∷ R) (suc k) h u f = unused_mark ms R k (omega arith) u.1 f
  unused_mark (false ∷ ms) (r ∷ R) zero h u f = refl
  unused_mark (false ∷ ms) (r ∷ R) (suc k) h u f = ap suc (unused_mark ms R k (omega arith) u f)

-- the marks after an equation of the picked rule is taken
pub used_next : (t : Theory) (S : List Equation) (ms : List Bool) (R : List (List Literal)) (k : ℕ) (e : Equation) → Used t S ms R
    → AllHad t (equations (get_or R k [])) → In e (equations (get_or R k [])) → Used t (S ++ (e ∷ [])) (mark ms k) R
used_next t S ms R k e u had i =
    used_mark t (S ++ (e ∷ [])) ms R k (used_more t S e ms R u)
    (λ none. none_at t (S ++ (e ∷ [])) e (equations (get_or R k [])) none i (forced_last t S e (had_at t e (equations (get_or R k [])) had i)))

abbrev pub extra : End → ℕ
extra (found C) = 0
extra dead = 0
extra spent = 1

abbrev pub Few : End → ℕ → Type 0
Few (found C) x = length C ≤ x
Few dead x = Unit {0}
Few spent x = Unit {0}

abbrev pub AtEnd : End → ℕ → ℕ → Type 0
AtEnd (found C) m b = Unit {0}
AtEnd dead m b = Unit {0}
AtEnd spent m b = m ≡ b

few_more : (o : End) (x y : ℕ) → x ≤ y → Few o x → Few o y
few_more (found C) x y h f = omega arith
few_more dead x y h f = tt
few_more spent x y h f = tt

pub record Counted (j b n m : ℕ) (o : End) (room most : ℕ) : Type 0 where
  pub trials : m + j + extra o ≤ n + room
  pub few : Few o most
  pub within : m ≤ b
  pub at_end : AtEnd o m b

module _ (t : Theory) (R : List (List Literal)) (b : ℕ) (had : HadAll t R) where
  mutual
    pub count_walk : {S : List Equation} {n m : ℕ} {o : End} → Walk t R b S n m o → (ms : List Bool) → Used t S ms R → n ≤ b →
        Counted 1 b n m o (unused_product ms R) (length S + unused ms R)
    count_walk (settled {S = S} {n = n} none) ms u le =
        record { trials = omega (arith, product_positive ms R); few = omega arith; within = le; at_end = tt }
    count_walk (takes {S = S} {n = n} {m = m} {o = o} k p ts) ms u le =
        let c = count_tries ts (mark ms k) (λ e i. used_next t S ms R k e u (had k p.within).0 i) le in
        let same = product_mark t S ms R k p.within u p.opens.1 in
        let less = unused_mark t S ms R k p.within u p.opens.1 in
        record {
          trials = omega (arith, same, times (width (get_or R k [])) (unused_product (mark ms k) R), product_positive (mark ms k) R, c.trials);
          few = few_more o (length S + 1 + unused (mark ms k) R) (length S + unused ms R) (omega (arith, less)) c.few;
          within = c.within;
          at_end = c.at_end;
        }

    pub count_tries : {S es : List Equation} {n m : ℕ} {o : End} → Tries t R b S es n m o → (ms : List Bool)
        → ((e : Equation) → In e es → Used t (S ++ (e ∷ [])) ms R) → n ≤ b →
        Counted 0 b n m o (length es * unused_product ms R) (length S + 1 + unused ms R)
    count_tries (tried {n = n}) ms u le = record { trials = omega (arith, zero-mul (unused_product ms R)); few = tt; within = le; at_end = tt }
    count_tries (spends {es = es} {n = n} p) ms u le =
        record { trials = omega (arith, times_suc (length es) (unused_product ms R), product_positive ms R); few = tt; within = le; at_end = p }
    count_tries (clashes {es = es} {n = n} p c ts) ms u le =
        let d = count_tries ts ms (λ e i. u e (inr i)) (omega arith) in
        record {
          trials = omega (arith, d.trials, times_suc (length es) (unused_product ms R), product_positive ms R);
          few = d.few;
          within = d.within;
          at_end = d.at_end;
        }
    count_tries (returns {es = es} {e = e} {n = n} p c v ts) ms u le =
        let d = count_walk v ms (u e (inl refl)) (omega arith) in
        let f = count_tries ts ms (λ e i. u e (inr i)) d.within in
        record {
          trials = omega (arith, d.trials, f.trials, times_suc (length es) (unused_product ms R));
          few = f.few;
          within = f.within;
          at_end = f.at_end;
        }
    count_tries (finds {S = S} {es = es} {e = e} {n = n} p c v) ms u le =
        let d = count_walk v ms (u e (inl refl)) (omega arith) in
        record {
          trials = omega (arith, d.trials, times_suc (length es) (unused_product ms R));
          few = omega (arith, d.few, length-append S (e ∷ []));
          within = d.within;
          at_end = tt;
        }
    count_tries (runs_out {es = es} {e = e} {n = n} p c v) ms u le =
        let d = count_walk v ms (u e (inl refl)) (omega arith) in
        record {
          trials = omega (arith, d.trials, times_suc (length es) (unused_product ms R));
          few = tt;
          within = d.within;
          at_end = d.at_end;
        }
