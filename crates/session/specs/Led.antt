-- What a session is where a run led to it. Assumes nothing.
use Rattle.std.specs.Prelude.{◌≡◌, ℕ, Bool, true, false, List, [], Some, None, Option}
use Rattle.logic.specs.Theories.{Theory}
use Rattle.logic.specs.declared.Equation.{Equation}
use Rattle.rules.specs.declared.Literal.{Literal}
use Rattle.rules.specs.Rules.{HadAll}
use Rattle.session.specs.Calls.{Asking, Answer}
use Rattle.session.specs.Steps.{state}
use Rattle.session.specs.Law.{ShownLaw}
use Rattle.session.specs.Runs.{Run}

-- The shown choices: those that are held, while an answer is shown.
abbrev pub shown_of : Bool → List Equation → Option (List Equation)
shown_of true C = Some C
shown_of false C = None

-- The calls cs with the answers rs led to a session whose logic has the theory t, is lawful (`good`) and has S standing,
-- and which holds the rules R, the scopes ls and the choices C, shown or not.
pub record Led (t : Theory) (good : Type 0) (S : List Equation) (R : List (List Literal)) (ls : List ℕ) (C : List Equation) (shown : Bool)
    (cs : List Asking) (rs : List Answer) : Type 0 where
  pub lawful : good
  pub standing : S ≡ C
  pub hidden : shown ≡ false → C ≡ []
  pub had : HadAll t R
  pub example : ShownLaw t R (shown_of shown C)
  pub run : Run t cs rs (state R ls (shown_of shown C))
