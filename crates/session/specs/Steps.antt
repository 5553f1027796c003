-- The state of a session, and what each call answers there and leaves behind. Assumes nothing.
use Rattle.std.specs.Prelude.{◌≡◌, ℕ, ◌<◌, ◌≤◌, ◌⊎◌, List, [], ◌∷◌, ◌++◌, length, take, Some, None, Option, slice_index_or}
use Rattle.logic.specs.Theories.{Theory}
use Rattle.logic.specs.declared.Equation.{Equation}
use Rattle.rules.specs.declared.Literal.{Literal}
use Rattle.rules.specs.Rules.{Had}
use Rattle.rules.specs.Walks.{Walk}
use Rattle.rules.specs.Walks.End.{found, dead, spent}
use Rattle.walk.specs.declared.Word.{Word}
use Rattle.walk.specs.declared.Word.TheVariants as W
use Rattle.session.specs.Calls.{Asking, Answer}
use Rattle.session.specs.Calls.Asking.{post, opens, closes, ask, choice}
use Rattle.session.specs.Calls.Answer.{granted, refused, answered, chosen}

-- The standing rules, oldest first; for each open scope, oldest first, how many rules stood when it was opened; and the
-- choices of the shown answer, if one is shown.
pub record State : Type 0 where
  pub rules : List (List Literal)
  pub scopes : List ℕ
  pub shown : Option (List Equation)

abbrev pub state : List (List Literal) → List ℕ → Option (List Equation) → State
state R ls o = record { rules = R; scopes = ls; shown = o }

-- A session begins with no rule, no scope and nothing shown.
abbrev pub start : State
start = state [] [] None

-- post is refused with 11 for a rule of over 16 literals, then with 12 where the theory lacks one of its equations, denied
-- or not, then with 31 where 256 rules stand.
abbrev pub PostRefused : Theory → State → List Literal → ℕ → Type 0
PostRefused t s r n =
    ((16 < length r) × (n ≡ 11))
    ⊎ ((length r ≤ 16) × (Had t r → ⊥) × (n ≡ 12))
    ⊎ ((length r ≤ 16) × Had t r × (length s.rules ≡ 256) × (n ≡ 31))

-- choice is refused with 34 where nothing is shown, and then with 18 from the count of choices on.
abbrev pub ChoiceRefused : State → ℕ → ℕ → Type 0
ChoiceRefused s k n =
    ((s.shown ≡ None) × (n ≡ 34))
    ⊎ ((C : List Equation) × (s.shown ≡ Some C) × (length C ≤ k) × (n ≡ 18))

-- The answer to an ask is that of the walk over the standing rules. A found answer is shown; after any other nothing is.
abbrev pub Answers : Theory → State → ℕ → Word → ℕ → State → Type 0
Answers t s b W.Found m z = (C : List Equation) × Walk t s.rules b [] 0 m (found C) × (z ≡ state s.rules s.scopes (Some C))
Answers t s b W.None m z = Walk t s.rules b [] 0 m dead × (z ≡ state s.rules s.scopes None)
Answers t s b W.Spent m z = Walk t s.rules b [] 0 m spent × (z ≡ state s.rules s.scopes None)

-- Step t s c r z: where the state is s, the call c is answered by r and leaves the state z. A granted post, open or close,
-- and every ask, puts a shown answer away; a refused call leaves the state as found.
abbrev pub Step : Theory → State → Asking → Answer → State → Type 0
Step t s (post r) granted z = (length r ≤ 16) × Had t r × (length s.rules < 256) × (z ≡ state (s.rules ++ (r ∷ [])) s.scopes None)
Step t s (post r) (refused n) z = PostRefused t s r n × (z ≡ s)
Step t s (post r) (answered w m) z = ⊥
Step t s (post r) (chosen a b) z = ⊥
Step t s opens granted z = (length s.scopes < 32) × (z ≡ state s.rules (s.scopes ++ (length s.rules ∷ [])) None)
Step t s opens (refused n) z = (length s.scopes ≡ 32) × (n ≡ 32) × (z ≡ s)
Step t s opens (answered w m) z = ⊥
Step t s opens (chosen a b) z = ⊥
Step t s closes granted z = (outer : List ℕ) × (n : ℕ) × (s.scopes ≡ outer ++ (n ∷ [])) × (z ≡ state (take n s.rules) outer None)
Step t s closes (refused n) z = (s.scopes ≡ []) × (n ≡ 33) × (z ≡ s)
Step t s closes (answered w m) z = ⊥
Step t s closes (chosen a b) z = ⊥
Step t s (ask b) granted z = ⊥
Step t s (ask b) (refused n) z = ⊥
Step t s (ask b) (answered w m) z = Answers t s b w m z
Step t s (ask b) (chosen l r) z = ⊥
Step t s (choice k) granted z = ⊥
Step t s (choice k) (refused n) z = ChoiceRefused s k n × (z ≡ s)
Step t s (choice k) (answered w m) z = ⊥
Step t s (choice k) (chosen l r) z =
    (C : List Equation) × (s.shown ≡ Some C) × (k < length C) × (slice_index_or C k (record { left = 0; right = 0 }) ≡ record { left = l; right = r }) × (z ≡ s)
