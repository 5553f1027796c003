-- The table of first places, as equations are taken and taken back. Assumes nothing.
use Rattle.std.proofs.Common.{◌≡◌, ℕ, ◌<◌, ◌≤◌, ◌≢◌, List, [], ◌∷◌, ◌++◌, length, get_or, take, set, sym, ap, ◌∙◌, subst, arith, length-take}
use Rattle.std.proofs.lemmas.List.{get_or_append_left, get_or_push, get_or-take, get_or-set_same, get_or-set_other}
use Rattle.logic.specs.Theories.{Forced}
use Rattle.logic.specs.declared.Equation.{Equation}
use Rattle.logic.proofs.Lists.{each_push}
use Rattle.switches.specs.Switches.{switches, switched}
use Rattle.switches.specs.Places.{switch_at, Firsts}
use Rattle.switches.specs.Forcing.{stands_forced, forced_first}

-- `first` gives the switch s a place up to k at which it stands
First : List Equation → List ℕ → ℕ → ℕ → Type 0
First es first k s = (get_or first s 0 ≤ k) × (switch_at es (get_or first s 0) ≡ s)

older : (es : List Equation) (e : Equation) (k : ℕ) → k < length es → switch_at (es ++ (e ∷ [])) k ≡ switch_at es k
older es e k h = ap (λ (x : Equation). x.left) (get_or_append_left es (e ∷ []) (switched 0) k h)

-- one more equation, of a switch that stands already
pub firsts_again : (es : List Equation) (e : Equation) (first : List ℕ) → Firsts es first → Forced switches es e → Firsts (es ++ (e ∷ [])) first
unfolding First
firsts_again es e first firsts f =
    let q = forced_first es first e firsts f in
    each_push (λ k (x : Equation). First (es ++ (e ∷ [])) first k x.left) es e (switched 0)
    (λ k h.
    let p : First es first k (switch_at es k) = firsts k h in
    (p.0, older es e (get_or first (switch_at es k) 0) (omega (arith, p.0)) ∙ p.1))
    (omega (arith, q.0), older es e (get_or first e.left 0) q.0 ∙ q.1)

-- one more equation, of a switch that does not stand yet, with its place noted
pub firsts_new : (es : List Equation) (e : Equation) (first : List ℕ) (p : ℕ) → p ≡ length es → e.left < 256 → e.left < length first
    → Firsts es first → (Forced switches es (switched e.left) → ⊥) → Firsts (es ++ (e ∷ [])) (set first e.left p)
unfolding First
firsts_new es e first p last small within firsts unforced =
    let fs = es ++ (e ∷ []) in
    let at : ℕ → ℕ → ℕ → Type 0 = λ k s y. (y ≤ k) × (switch_at fs y ≡ s) in
    let noted : get_or (set first e.left p) e.left 0 ≡ p = get_or-set_same first e.left p 0 within in
    let newest : switch_at fs p ≡ e.left = ap (λ (x : Equation). x.left) (get_or_push es e (switched 0) p (sym last)) in
    each_push (λ k (x : Equation). First fs (set first e.left p) k x.left) es e (switched 0)
    (λ k h.
    let s = switch_at es k in
    let q : First es first k s = firsts k h in
    let other : s ≢ e.left = λ same. unforced (stands_forced es e.left k small h same) in
    subst (at k s) (sym (get_or-set_other first e.left s p 0 other)) (q.0, older es e (get_or first s 0) (omega (arith, q.0)) ∙ q.1))
    (subst (at (length es) e.left) (sym noted) (omega arith, newest))

-- the oldest n equations
pub firsts_back : (es : List Equation) (n : ℕ) (first : List ℕ) → Firsts es first → Firsts (take n es) first
unfolding First
firsts_back es n first firsts k h =
    let small : (k < n) × (k < length es) = (omega (arith, length-take n es), omega (arith, length-take n es)) in
    let kept : (j : ℕ) → j < n → switch_at (take n es) j ≡ switch_at es j
    = λ j less. ap (λ (x : Equation). x.left) (get_or-take n es j (switched 0) less) in
    let q : First es first k (switch_at es k) = firsts k small.1 in
    subst (λ (s : ℕ). First (take n es) first k s) (sym (kept k small.0))
    (q.0, kept (get_or first (switch_at es k) 0) (omega (arith, q.0)) ∙ q.1)
