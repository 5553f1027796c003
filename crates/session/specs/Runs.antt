-- Runs of a session: calls, the replies to them, and the state that they lead to. Assumes nothing.
use Rattle.std.specs.Prelude.{List, [], ◌∷◌, ◌++◌}
use Rattle.logic.specs.Theories.{Theory}
use Rattle.session.specs.Calls.{Asking, Answer}
use Rattle.session.specs.Steps.{State, start, Step}
use Rattle.session.specs.Law.{After}

-- From the beginning, the calls cs, oldest first, were answered by rs, and led to the state z: each answer is the one that
-- the steps give, and the law holds after each call.
pub data Run (t : Theory) : List Asking → List Answer → State → Type 0 where
  begin : Run t [] [] start
  next : {cs : List Asking} {rs : List Answer} {s z : State} (c : Asking) (r : Answer)
      → Run t cs rs s → Step t s c r z → After t c r z → Run t (cs ++ (c ∷ [])) (rs ++ (r ∷ [])) z

-- The calls were answered so.
abbrev pub Played : Theory → List Asking → List Answer → Type 0
Played t cs rs = (z : State) × Run t cs rs z
