-- One call more after a run that led to a session. Assumes nothing.
use Rattle.std.proofs.Common.{◌≡◌, ℕ, zero, suc, ◌<◌, ◌≤◌, Bool, true, false, List, [], ◌∷◌, ◌++◌, length, get_or, take, Option, sym, refl, ap, ◌∙◌, subst, inl, inr, arith}
use Rattle.std.proofs.lemmas.List.{map-append}
use Rattle.logic.specs.Theories.{Theory, Same}
use Rattle.logic.specs.declared.Equation.{Equation}
use Rattle.logic.proofs.Sames.{same_sym}
use Rattle.rules.specs.declared.Literal.{Literal}
use Rattle.rules.specs.Rules.{Had, HadAll}
use Rattle.rules.proofs.Moved.{rules_moved}
use Rattle.walk.specs.declared.rule.Rule.{Rule}
use Rattle.walk.specs.Written.{literals_of, written}
use Rattle.session.specs.Calls.{Asking, Answer}
use Rattle.session.specs.Calls.Asking.{post, opens, closes, choice}
use Rattle.session.specs.Calls.Answer.{granted, refused, chosen}
use Rattle.session.specs.Steps.{State, state, Step}
use Rattle.session.specs.Law.{LastLaw, ShownLaw}
use Rattle.session.specs.Runs.{Run}
use Rattle.session.specs.Runs.Run.{begin, next}
use Rattle.session.specs.Led.{Led, shown_of}
use Rattle.session.proofs.Moved.{run_moved, shown_moved}

state_is : {R Q : List (List Literal)} {ls ks : List ℕ} {o p : Option (List Equation)} → R ≡ Q → ls ≡ ks → o ≡ p → state R ls o ≡ state Q ks p
state_is a b c = λ i. record { rules = a i; scopes = b i; shown = c i }

-- the beginning
pub led_begin : (t : Theory) (good : Type 0) (S : List Equation) (rs : List Rule) (ls : List ℕ) (C : List Equation) → good → S ≡ [] → rs ≡ [] → ls ≡ [] → C ≡ []
    → Led t good S (written rs) ls C false [] []
led_begin t good S rs ls C lawful e₀ e₁ e₂ e₃ =
    record {
      lawful = lawful;
      standing = e₀ ∙ sym e₃;
      hidden = λ _. e₃;
      had = subst (λ (x : List Rule). HadAll t (written x)) (sym e₁) (λ k h. absurd (omega arith));
      example = tt;
      run = subst (λ (x : State). Run t [] [] x) (sym (state_is (ap written e₁) e₂ refl)) begin;
    }

module _ {t : Theory} {good : Type 0} {S : List Equation} {R : List (List Literal)} {ls : List ℕ} {C : List Equation} {shown : Bool} {cs : List Asking} {rs : List Answer}
    (l : Led t good S R ls C shown cs rs) where
  -- a call that leaves all as found
  pub led_same : (c : Asking) (r : Answer) → Step t (state R ls (shown_of shown C)) c r (state R ls (shown_of shown C)) → LastLaw t c r (state R ls (shown_of shown C))
      → Led t good S R ls C shown (cs ++ (c ∷ [])) (rs ++ (r ∷ []))
  led_same c r step last =
      record {
        lawful = l.lawful;
        standing = l.standing;
        hidden = l.hidden;
        had = l.had;
        example = l.example;
        run = next c r l.run step (record { last = last; shown = l.example });
      }

  -- a call that leaves another session
  pub led_next : (c : Asking) (r : Answer) (u : Theory) (fine : Type 0) (T : List Equation) (Q : List (List Literal)) (ks : List ℕ) (D : List Equation) (now : Bool)
      → Same u t → fine → T ≡ D → (now ≡ false → D ≡ []) → HadAll t Q → ShownLaw t Q (shown_of now D)
      → Step t (state R ls (shown_of shown C)) c r (state Q ks (shown_of now D)) → LastLaw t c r (state Q ks (shown_of now D))
      → Led u fine T Q ks D now (cs ++ (c ∷ [])) (rs ++ (r ∷ []))
  led_next c r u fine T Q ks D now same lawful standing hidden had example step last =
      record {
        lawful = lawful;
        standing = standing;
        hidden = hidden;
        had = rules_moved t u (same_sym same) Q had;
        example = shown_moved t u (same_sym same) Q (shown_of now D) example;
        run = run_moved t u (same_sym same) (next c r l.run step (record { last = last; shown = example }));
      }

  pub led_long : (x : List Literal) → 16 < length x → Led t good S R ls C shown (cs ++ (post x ∷ [])) (rs ++ (refused 11 ∷ []))
  led_long x long = led_same (post x) (refused 11) (inl (long, refl), refl) tt

  pub led_foreign : (x : List Literal) → length x ≤ 16 → (Had t x → ⊥) → Led t good S R ls C shown (cs ++ (post x ∷ [])) (rs ++ (refused 12 ∷ []))
  led_foreign x short lacks = led_same (post x) (refused 12) (inr (inl (short, lacks, refl)), refl) tt

  pub led_full : (x : List Literal) → length x ≤ 16 → Had t x → length R ≡ 256 → Led t good S R ls C shown (cs ++ (post x ∷ [])) (rs ++ (refused 31 ∷ []))
  led_full x short had full = led_same (post x) (refused 31) (inr (inr (short, had, full, refl)), refl) tt

  pub led_scopes : length ls ≡ 32 → Led t good S R ls C shown (cs ++ (opens ∷ [])) (rs ++ (refused 32 ∷ []))
  led_scopes full = led_same opens (refused 32) (full, refl, refl) tt

  -- nothing is shown afterwards
  module _ (u : Theory) (fine : Type 0) (T : List Equation) (D : List Equation) (same : Same u t) (lawful : fine) (bare : T ≡ []) (none : D ≡ []) where
    pub led_post : (x : List Literal) → length x ≤ 16 → Had t x → length R < 256 → (Q : List (List Literal)) → Q ≡ R ++ (x ∷ [])
        → HadAll t Q → Led u fine T Q ls D false (cs ++ (post x ∷ [])) (rs ++ (granted ∷ []))
    led_post x short had less Q pushed all =
        led_next (post x) granted u fine T Q ls D false same lawful (bare ∙ sym none) (λ _. none) all tt
        (short, had, less, state_is pushed refl refl) tt

    pub led_open : length ls < 32 → (ks : List ℕ) → ks ≡ ls ++ (length R ∷ []) → Led u fine T R ks D false (cs ++ (opens ∷ [])) (rs ++ (granted ∷ []))
    led_open less ks pushed =
        led_next opens granted u fine T R ks D false same lawful (bare ∙ sym none) (λ _. none) l.had tt (less, state_is refl pushed refl) tt

    pub led_close : (outer : List ℕ) (n : ℕ) → ls ≡ outer ++ (n ∷ []) → (Q : List (List Literal)) → Q ≡ take n R → HadAll t Q
        → Led u fine T Q outer D false (cs ++ (closes ∷ [])) (rs ++ (granted ∷ []))
    led_close outer n popped Q cut all =
        led_next closes granted u fine T Q outer D false same lawful (bare ∙ sym none) (λ _. none) all tt (outer, n, popped, state_is cut refl refl) tt

had_push : (t : Theory) (R : List (List Literal)) (x : List Literal) → HadAll t R → Had t x → HadAll t (R ++ (x ∷ []))
had_push t [] x had h zero lt = h
had_push t [] x had h (suc k) lt = absurd (omega arith)
had_push t (r ∷ R) x had h zero lt = had 0 (omega arith)
had_push t (r ∷ R) x had h (suc k) lt = had_push t R x (λ j q. had (suc j) (omega arith)) h k (omega arith)

had_take : (t : Theory) (n : ℕ) (R : List (List Literal)) → HadAll t R → HadAll t (take n R)
had_take t zero R had k lt = absurd (omega arith)
had_take t (suc n) [] had k lt = absurd (omega arith)
had_take t (suc n) (r ∷ R) had zero lt = had 0 (omega arith)
had_take t (suc n) (r ∷ R) had (suc k) lt = had_take t n R (λ j q. had (suc j) (omega arith)) k (omega arith)

-- the rules with one more at the end, and the oldest n
pub written_push : (rs qs : List Rule) (r : Rule) (x : List Literal) → qs ≡ rs ++ (r ∷ []) → literals_of r ≡ x → written qs ≡ written rs ++ (x ∷ [])
written_push rs qs r x pushed is = ap written pushed ∙ map-append literals_of rs (r ∷ []) ∙ ap (λ (y : List Literal). written rs ++ (y ∷ [])) is

pub pushed_had : (t : Theory) (R Q : List (List Literal)) (x : List Literal) → Q ≡ R ++ (x ∷ []) → HadAll t R → Had t x → HadAll t Q
pushed_had t R Q x pushed had h = subst (HadAll t) (sym pushed) (had_push t R x had h)

written_take_all : (n : ℕ) (rs : List Rule) → written (take n rs) ≡ take n (written rs)
written_take_all zero rs = refl
written_take_all (suc n) [] = refl
written_take_all (suc n) (r ∷ rs) = ap (λ (x : List (List Literal)). literals_of r ∷ x) (written_take_all n rs)

pub written_take : (n : ℕ) (rs qs : List Rule) → qs ≡ take n rs → written qs ≡ take n (written rs)
written_take n rs qs cut = ap written cut ∙ written_take_all n rs

pub taken_had : (t : Theory) (n : ℕ) (R Q : List (List Literal)) → Q ≡ take n R → HadAll t R → HadAll t Q
taken_had t n R Q cut had = subst (HadAll t) (sym cut) (had_take t n R had)

-- a close with no scope open
pub led_unopened : {t : Theory} {good : Type 0} {S : List Equation} {R : List (List Literal)} {ls : List ℕ} {C : List Equation} {shown : Bool} {cs : List Asking} {rs : List Answer}
    → Led t good S R ls C shown cs rs → (ks : List ℕ) → ls ≡ [] → ls ≡ ks → Led t good S R ks C shown (cs ++ (closes ∷ [])) (rs ++ (refused 33 ∷ []))
led_unopened {t} {good} {S} {R} {ls} {C} {shown} {cs} {rs} l ks none same =
    subst (λ (x : List ℕ). Led t good S R x C shown (cs ++ (closes ∷ [])) (rs ++ (refused 33 ∷ []))) same
    (led_same l closes (refused 33) (none, refl, refl) tt)

-- a choice
module _ {t : Theory} {good : Type 0} {S : List Equation} {R : List (List Literal)} {ls : List ℕ} {C : List Equation} {cs : List Asking} {rs : List Answer} (k : ℕ) {shown : Bool} where
  pub led_unshown : shown ≡ false → Led t good S R ls C shown cs rs → Led t good S R ls C shown (cs ++ (choice k ∷ [])) (rs ++ (refused 34 ∷ []))
  led_unshown e l =
      led_same l (choice k) (refused 34) (inl (ap (λ (b : Bool). shown_of b C) e, refl), refl) tt

  pub led_beyond : shown ≡ true → length C ≤ k → Led t good S R ls C shown cs rs → Led t good S R ls C shown (cs ++ (choice k ∷ [])) (rs ++ (refused 18 ∷ []))
  led_beyond e past l =
      led_same l (choice k) (refused 18) (inr (C, ap (λ (b : Bool). shown_of b C) e, past, refl), refl) tt

  pub led_choice : shown ≡ true → k < length C → (e : Equation) → e ≡ get_or C k (record { left = 0; right = 0 }) → Led t good S R ls C shown cs rs
      → Led t good S R ls C shown (cs ++ (choice k ∷ [])) (rs ++ (chosen e.left e.right ∷ []))
  led_choice there within e read l =
      led_same l (choice k) (chosen e.left e.right) (C, ap (λ (b : Bool). shown_of b C) there, within, sym read, refl) tt
