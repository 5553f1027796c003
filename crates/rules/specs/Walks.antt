-- The walk of an ask, as a relation over a theory, a list of rules and a budget. Assumes nothing.
use Rattle.std.specs.Prelude.{◌≡◌, List, [], ◌∷◌, ◌++◌, ℕ, ◌+◌, ◌<◌, get_or}
use Rattle.logic.specs.Theories.{Theory, Clash}
use Rattle.logic.specs.declared.Equation.{Equation}
use Rattle.rules.specs.declared.Literal.{Literal}
use Rattle.rules.specs.Rules.{equations}
use Rattle.rules.specs.Openness.{AllSettled, TakenRule}

-- How a walk ends: found, with choices; in a dead end; or spent.
pub data End : Type 0 where
  found : List Equation → End
  dead : End
  spent : End

mutual
  -- Walk t R b S n m o: where S stand and n trials are made, the walk over the rules R with the budget b ends as o, when
  -- m trials are made in all.
  pub data Walk (t : Theory) (R : List (List Literal)) (b : ℕ) : List Equation → ℕ → ℕ → End → Type 0 where
    -- No rule is open: found, and the choices are the standing equations.
    settled : {S : List Equation} {n : ℕ} → AllSettled t S R → Walk t R b S n n (found S)
    -- Otherwise a rule is taken, and its equations are tried.
    takes : {S : List Equation} {n m : ℕ} {o : End} (k : ℕ) → TakenRule t S R k → Tries t R b S (equations (get_or R k [])) n m o
        → Walk t R b S n m o

  -- Tries t R b S es n m o: the same, where the equations es of the rule that was taken are still to be tried.
  pub data Tries (t : Theory) (R : List (List Literal)) (b : ℕ) : List Equation → List Equation → ℕ → ℕ → End → Type 0 where
    -- All have been tried: a dead end.
    tried : {S : List Equation} {n : ℕ} → Tries t R b S [] n n dead
    -- One more trial would pass the budget: spent, after just that many.
    spends : {S es : List Equation} {e : Equation} {n : ℕ} → n ≡ b → Tries t R b S (e ∷ es) n n spent
    -- The equation clashes: the next is tried.
    clashes : {S es : List Equation} {e : Equation} {n m : ℕ} {o : End} → n < b → Clash t S e
        → Tries t R b S es (n + 1) m o → Tries t R b S (e ∷ es) n m o
    -- It is taken, and further on there is a dead end: it is taken back, and the next is tried.
    returns : {S es : List Equation} {e : Equation} {n p m : ℕ} {o : End} → n < b → (Clash t S e → ⊥)
        → Walk t R b (S ++ (e ∷ [])) (n + 1) p dead → Tries t R b S es p m o → Tries t R b S (e ∷ es) n m o
    -- It is taken, and the walk goes on from there to an answer.
    finds : {S es C : List Equation} {e : Equation} {n m : ℕ} → n < b → (Clash t S e → ⊥)
        → Walk t R b (S ++ (e ∷ [])) (n + 1) m (found C) → Tries t R b S (e ∷ es) n m (found C)
    -- It is taken, and further on the budget is spent.
    runs_out : {S es : List Equation} {e : Equation} {n m : ℕ} → n < b → (Clash t S e → ⊥)
        → Walk t R b (S ++ (e ∷ [])) (n + 1) m spent → Tries t R b S (e ∷ es) n m spent
