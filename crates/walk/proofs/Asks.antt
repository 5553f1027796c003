-- From the walk at the top to the answer. Assumes nothing.
use Rattle.std.proofs.Common.{◌≡◌, ℕ, List, [], take, sym, refl, ◌∙◌, subst}
use Rattle.logic.specs.Answers.{Kept}
use Rattle.logic.specs.declared.Equation.{Equation}
use Rattle.logic.specs.declared.Logic.{Ghosts}
use Rattle.logic.proofs.Sames.{kept_trans}
use Rattle.rules.specs.declared.Literal.{Literal}
use Rattle.rules.specs.Walks.{End, Walk}
use Rattle.rules.specs.Walks.End.{found, dead}
use Rattle.walk.specs.declared.Word.{Word}
use Rattle.walk.specs.declared.Word.TheVariants as W
use Rattle.walk.specs.Walked.{end_of, IfNone, Walked, Asked}

module _ {X : Type 0} (G : Ghosts X)
    (R : List (List Literal)) (b : ℕ) (s : X) (bare : G.stands s ≡ []) (m : ℕ) (z : X) (cs : List Equation) where
  from_bare : (o : End) → Walk (G.theory s) R b (G.stands s) 0 m o → Walk (G.theory s) R b [] 0 m o
  from_bare o w = let P : List Equation → Type 0 = λ f. Walk (G.theory s) R b f 0 m o in subst P bare w

  -- a walk that is not spent
  pub asked_rest : (r : Word) → (r ≡ W.Spent → ⊥) → (bs : List Equation) → bs ≡ [] → IfNone r (cs ≡ bs)
      → Walked G R b s 0 r m z cs → Asked G R b s r m z cs
  asked_rest W.Found not bs e k w =
      record {
        kept = w.kept;
        walk = let P : List Equation → Type 0 = λ f. Walk (G.theory s) R b [] 0 m (found f) in subst P (sym w.shown) (from_bare (found (G.stands z)) w.walk);
        shown = w.shown;
        bare = λ n. absurd (n refl);
      }
  asked_rest W.None not bs e k w =
      record {
        kept = w.kept;
        walk = from_bare dead w.walk;
        shown = k ∙ e ∙ sym (w.bare ∙ bare);
        bare = λ n. k ∙ e;
      }
  asked_rest W.Spent not bs e k w = absurd (not refl)

  -- a walk that is spent, and all of it taken back
  pub asked_spent : (r : Word) → r ≡ W.Spent → Walked G R b s 0 r m z cs
      → (j : X) (ds : List Equation) → Kept (G.theory z) (G.theory j) (G.telling z) (G.telling j) (G.lawful j) → G.stands j ≡ take 0 (G.stands z) → ds ≡ []
      → Asked G R b s r m j ds
  asked_spent r e w j ds back oldest none =
      record {
        kept = kept_trans w.kept back;
        walk = from_bare (end_of r ds) (let P : Word → Type 0 = λ a. Walk (G.theory s) R b (G.stands s) 0 m (end_of a (G.stands z)) → Walk (G.theory s) R b (G.stands s) 0 m (end_of a ds) in subst P (sym e) (λ x. x) w.walk);
        shown = none ∙ sym oldest;
        bare = λ n. none;
      }
