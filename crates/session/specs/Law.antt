-- What holds after every call of a session. Assumes nothing.
use Rattle.std.specs.Prelude.{◌≡◌, ℕ, ◌+◌, ◌≤◌, ◌↔◌, List, Some, None, Option, ◌≢◌}
use Rattle.logic.specs.Theories.{Theory}
use Rattle.logic.specs.declared.Equation.{Equation}
use Rattle.rules.specs.declared.Literal.{Literal}
use Rattle.rules.specs.Rules.{product}
use Rattle.rules.specs.Laws.{Never, Example}
use Rattle.walk.specs.declared.Word.{Word}
use Rattle.walk.specs.declared.Word.TheVariants as W
use Rattle.session.specs.Calls.{Asking, Answer}
use Rattle.session.specs.Calls.Asking.{post, opens, closes, ask, choice}
use Rattle.session.specs.Calls.Answer.{granted, refused, answered, chosen}
use Rattle.session.specs.Steps.{State}

-- An ask over the rules R with the budget b, answered by the word w after m trials: unless it is spent, it says none
-- exactly when no own world meets every rule; the trials plus one are at most the product; and with a budget that plus one
-- is at least the product it is not spent.
pub record AskLaw (t : Theory) (R : List (List Literal)) (b : ℕ) (w : Word) (m : ℕ) : Type 0 where
  pub none : (w ≢ W.Spent) → (w ≡ W.None) ↔ Never t R
  pub trials : m + 1 ≤ product R
  pub enough : product R ≤ b + 1 → w ≢ W.Spent

-- The law of the call that was made last: an ask has its law over the rules that stand; any other has none.
abbrev pub LastLaw : Theory → Asking → Answer → State → Type 0
LastLaw t (post r) a z = Unit {0}
LastLaw t opens a z = Unit {0}
LastLaw t closes a z = Unit {0}
LastLaw t (ask b) granted z = Unit {0}
LastLaw t (ask b) (refused n) z = Unit {0}
LastLaw t (ask b) (answered w m) z = AskLaw t z.rules b w m
LastLaw t (ask b) (chosen l r) z = Unit {0}
LastLaw t (choice k) a z = Unit {0}

-- While an answer is shown, its choices are an answer to the standing rules.
abbrev pub ShownLaw : Theory → List (List Literal) → Option (List Equation) → Type 0
ShownLaw t R None = Unit {0}
ShownLaw t R (Some C) = Example t R C

-- The law after a call: of the ask, if it was one, and of the shown answer, if one is shown.
pub record After (t : Theory) (c : Asking) (r : Answer) (z : State) : Type 0 where
  pub last : LastLaw t c r z
  pub shown : ShownLaw t z.rules z.shown
