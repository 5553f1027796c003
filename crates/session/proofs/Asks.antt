-- An ask after a run that led to a session. Assumes nothing.
use Rattle.std.proofs.Common.{◌≡◌, ℕ, Bool, true, false, List, [], ◌∷◌, ◌++◌, sym, refl, subst, arith}
use Rattle.logic.specs.Theories.{Theory, Same, Freest}
use Rattle.logic.specs.declared.Equation.{Equation}
use Rattle.logic.proofs.Sames.{same_trans}
use Rattle.rules.specs.declared.Literal.{Literal}
use Rattle.rules.specs.Rules.{HadAll}
use Rattle.rules.specs.Walks.{End, Walk}
use Rattle.rules.specs.Walks.End.{found, dead, spent}
use Rattle.rules.specs.Laws.{Example}
use Rattle.rules.proofs.Moved.{walk_moved, freest_moved}
use Rattle.rules.proofs.Theorems.{laws}
use Rattle.walk.specs.declared.Word.{Word}
use Rattle.walk.specs.declared.Word.TheVariants as W
use Rattle.walk.specs.Walked.{end_of, is_found}
use Rattle.session.specs.Calls.{Asking, Answer}
use Rattle.session.specs.Calls.Asking.{ask}
use Rattle.session.specs.Calls.Answer.{answered}
use Rattle.session.specs.Law.{AskLaw}
use Rattle.session.specs.Led.{Led}
use Rattle.session.proofs.Leads.{led_next}

-- no two words are one
none≢spent : W.None ≡ W.Spent → ⊥
none≢spent e = let z : ◌≡◌ {A = ℕ} 0 1 = cc in omega arith

found≢spent : W.Found ≡ W.Spent → ⊥
found≢spent e = let z : ◌≡◌ {A = ℕ} 0 1 = cc in omega arith

none≢found : W.None ≡ W.Found → ⊥
none≢found e = let z : ◌≡◌ {A = ℕ} 0 1 = cc in omega arith

spent≢found : W.Spent ≡ W.Found → ⊥
spent≢found e = let z : ◌≡◌ {A = ℕ} 0 1 = cc in omega arith

found≢none : W.Found ≡ W.None → ⊥
found≢none e = let z : ◌≡◌ {A = ℕ} 0 1 = cc in omega arith

module _ (t : Theory) (R : List (List Literal)) (b m : ℕ) (had : HadAll t R) where
  found_law : (C : List Equation) → Walk t R b [] 0 m (found C) → Example t R C → AskLaw t R b W.Found m
  found_law C w x =
      record {
        none = λ unspent. (λ e. absurd (found≢none e), λ never. absurd (never x.world x.own x.meets));
        trials = ((laws t).trials R b m (found C) had w).0;
        enough = λ large e. found≢spent e;
      }

  none_law : Walk t R b [] 0 m dead → AskLaw t R b W.None m
  none_law w =
      record {
        none = λ unspent. (λ e. (laws t).dead R b m w, λ never. refl);
        trials = ((laws t).trials R b m dead had w).0;
        enough = λ large e. none≢spent e;
      }

  spent_law : Walk t R b [] 0 m spent → AskLaw t R b W.Spent m
  spent_law w =
      record {
        none = λ unspent. absurd (unspent refl);
        trials = ((laws t).trials R b m spent had w).0;
        enough = λ large e. let less = ((laws t).trials R b m spent had w).2 refl in omega arith;
      }

-- u is the theory after the shown answer is put away, v that after the walk
module _ {t : Theory} {good : Type 0} {S : List Equation} {R : List (List Literal)} {ls : List ℕ} {C : List Equation} {shown : Bool} {cs : List Asking} {rs : List Answer}
    (l : Led t good S R ls C shown cs rs)
    (u v : Theory) (fine : Type 0) (T D : List Equation) (away : Same u t) (after : Same v u) (lawful : fine) (stand : D ≡ T) (b m : ℕ) where
  back : Same v t
  back = same_trans after away

  moved : (o : End) → Walk u R b [] 0 m o → Walk t R b [] 0 m o
  moved o w = walk_moved u t away R b w

  -- a walk that found choices, and one that did not
  led_found : Walk u R b [] 0 m (found D) → Freest v T → Led v fine T R ls D true (cs ++ (ask b ∷ [])) (rs ++ (answered W.Found m ∷ []))
  led_found w f =
      let free : Freest t D = subst (λ (x : List Equation). Freest t x) (sym stand) (freest_moved v t back T f) in
      let example : Example t R D = (laws t).found R b m D l.had (moved (found D) w) free in
      led_next l (ask b) (answered W.Found m) v fine T R ls D true back lawful (sym stand)
      (λ e. let z : ◌≡◌ {A = ℕ} 0 1 = cc in absurd (omega arith)) l.had example (D, moved (found D) w, refl) (found_law t R b m l.had D (moved (found D) w) example)

  pub led_ask : (a : Word) → ((a ≡ W.Found → ⊥) → D ≡ []) → Walk u R b [] 0 m (end_of a D) → Freest v T
      → Led v fine T R ls D (is_found a) (cs ++ (ask b ∷ [])) (rs ++ (answered a m ∷ []))
  led_ask W.Found bare w f = led_found w f
  led_ask W.None bare w f =
      led_next l (ask b) (answered W.None m) v fine T R ls D false back lawful (sym stand) (λ _. bare none≢found) l.had tt
      (moved dead w, refl) (none_law t R b m l.had (moved dead w))
  led_ask W.Spent bare w f =
      led_next l (ask b) (answered W.Spent m) v fine T R ls D false back lawful (sym stand) (λ _. bare spent≢found) l.had tt
      (moved spent w, refl) (spent_law t R b m l.had (moved spent w))
