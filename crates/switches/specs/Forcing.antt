-- A switch is forced exactly when an equation of it stands, and the world told by just those is a freest world.
-- Assumes nothing.
use Rattle.std.specs.Prelude.{◌≡◌, ℕ, zero, suc, ◌<◌, ◌≤◌, Bool, true, false, cond, List, [], ◌∷◌, length, ◌==◌, slice_index, refl}
use Rattle.std.proofs.Common.{sym, ap, subst, ◌∙◌, inl, inr, arith}
use Rattle.std.proofs.lemmas.Bool.{eq-eqb, eqb-true, false≢true, or_cases, or_left, or_right}
use Rattle.std.proofs.lemmas.Bool.Decides.{nat_tests}
use Rattle.logic.specs.Trees.{base, tower, towers}
use Rattle.logic.specs.Theories.{AllTrue, Forced, Clash, FreestAt}
use Rattle.logic.specs.declared.Equation.{Equation}
use Rattle.logic.proofs.Towers.{tower_same}
use Rattle.logic.proofs.Trues.{all_at, all_each}
use Rattle.switches.specs.Switches.{switches, switched, stands_on, told_by}
use Rattle.switches.specs.Places.{switch_at, Firsts}

-- a switch that stands on does so at some place
on_place : (es : List Equation) (s : ℕ) → stands_on es s ≡ true → (k : ℕ) × (k < length es) × (switch_at es k ≡ s)
on_place [] s h = absurd (false≢true h)
on_place (e ∷ es) s h =
    elim (or_cases (e.left == s) (stands_on es s) h) [
      | inl p ↦ (0, omega arith, eqb-true e.left s p)
      | inr p ↦ let k = on_place es s p in (suc k.0, omega (arith, k.1), k.2)
    ]

-- a tower of height 0 or 1 is base only where it is of height 0
pub height_on : (b : Bool) → tower (cond b 0 1) ≡ base → b ≡ true
height_on true h = refl
height_on false h = absurd (omega (arith, tower_same 1 0 h))

-- the switch of each standing equation stands on
on_at : (es : List Equation) (k : ℕ) → k < length es → stands_on es (switch_at es k) ≡ true
on_at [] k h = absurd (omega arith)
on_at (e ∷ es) zero h = or_left (e.left == e.left) (stands_on es e.left) (eq-eqb e.left e.left refl)
on_at (e ∷ es) (suc k) h = or_right (e.left == switch_at es k) (stands_on es (switch_at es k)) (on_at es k (omega arith))

told_all : (es : List Equation) → AllTrue switches (told_by es) es
told_all es = all_each switches (told_by es) es (switched 0) (λ k h. ap (λ b. tower (cond b 0 1)) (on_at es k h))

-- an equation of switch s that stands forces it
pub stands_forced : (es : List Equation) (s p : ℕ) → s < 256 → p < length es → switch_at es p ≡ s → Forced switches es (switched s)
stands_forced es s p small within here = (grind (arith, nat_tests), λ w own all. ap w.tree (sym here) ∙ all_at switches w es p (switched 0) all within)

pub on_forced : (es : List Equation) (e : Equation) → switches.has e ≡ true → stands_on es e.left ≡ true → Forced switches es e
on_forced es e had h =
    let k = on_place es e.left h in
    (had, λ w own all. ap w.tree (sym k.2) ∙ all_at switches w es k.0 (switched 0) all k.1)

pub told_freest : (es : List Equation) → FreestAt switches es (told_by es)
told_freest es =
    record {
      own = tt;
      all = told_all es;
      free = λ e had true_here. on_forced es e had (height_on (stands_on es e.left) true_here);
    }

-- a forced switch stands at some place, and so at the place that `first` gives it
pub forced_first : (es : List Equation) (first : List ℕ) (e : Equation) → Firsts es first → Forced switches es e
    → (slice_index first e.left < length es) × (switch_at es (slice_index first e.left) ≡ e.left)
forced_first es first e firsts f =
    let h : stands_on es e.left ≡ true = height_on (stands_on es e.left) (f.1 (told_by es) tt (told_all es)) in
    let k = on_place es e.left h in
    let P : ℕ → Type 0 = λ s. (slice_index first s ≤ k.0) × (switch_at es (slice_index first s) ≡ s) in
    let q : P e.left = subst P k.2 (firsts k.0 k.1) in
    (omega (arith, q.0, k.1), q.1)

-- the world of base alone makes every equation of a switch true
pub no_clash : (es : List Equation) (e : Equation) → Clash switches es e → ⊥
no_clash es e clash = clash (towers (λ s. 0)) tt (all_each switches (towers (λ s. 0)) es (switched 0) (λ k h. refl)) refl

-- of the switches' equations only (s, 0) speaks of s
pub on_alone : (es : List Equation) (e : Equation) → switches.has e ≡ true → Forced switches es (switched e.left) → Forced switches es e
on_alone es e had f = (had, f.1)
