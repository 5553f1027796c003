-- Runs that led to a session, by the ghost members of its logic. Assumes nothing.
use Rattle.std.specs.Prelude.{◌≡◌, List, [], ◌∷◌, ◌++◌, map, Result, vec_items}
use Rattle.logic.specs.Answers.{Kept}
use Rattle.logic.specs.declared.Logic.{Ghosts}
use Rattle.rules.specs.Laws.{Laws}
use Rattle.walk.specs.Written.{written}
use Rattle.session.specs.declared.Session.{Session}
use Rattle.session.specs.Calls.{Asking, Answer}
use Rattle.session.specs.Led.{Led}
use Rattle.session.specs.Runs.{Played}
use Rattle.session.specs.Replies.{call_of, reply_of}
use Rattle.session.specs.declared.Call.{Call}
use Rattle.session.specs.declared.Refusal.{Refusal}
use Rattle.session.specs.declared.Reply.{Reply}

module _ {X : Type 0} (G : Ghosts X) where
  -- The calls cs with the answers rs led to the session s.
  abbrev pub LedBy : Session X → List Asking → List Answer → Type 0
  LedBy s cs rs =
      Led (G.theory s.logic) (G.lawful s.logic) (G.stands s.logic) (written (vec_items s.rules.vec)) (vec_items s.scopes.vec) (vec_items s.choices) s.shown cs rs

  -- One call more, answered by r, makes z of the session s: whatever run led to s, with this call it leads to z; and the
  -- logic keeps its theory and what it tells.
  abbrev pub Continues : Session X → Asking → Answer → Session X → Type 0
  Continues s c r z = (cs : List Asking) (rs : List Answer) → LedBy s cs rs
      → Kept (G.theory s.logic) (G.theory z.logic) (G.telling s.logic) (G.telling z.logic) (G.lawful z.logic) × LedBy z (cs ++ (c ∷ [])) (rs ++ (r ∷ []))

  -- A session that was begun on the logic l and in which the calls were made has come to s, with these replies: they are a
  -- run over the theory of l, no other answers to these calls make one, that run led to s, and the logic of s has the theory
  -- of l and tells what l tells. The laws of the walk over the theory of l say how its budgets relate.
  pub record Plays (l : X) (calls : List Call) (s : Session X) (replies : List (Result Reply Refusal)) : Type 0 where
    pub played : Played (G.theory l) (map call_of calls) (map reply_of replies)
    pub only : (others : List Answer) → Played (G.theory l) (map call_of calls) others → others ≡ map reply_of replies
    pub led : LedBy s (map call_of calls) (map reply_of replies)
    pub kept : Kept (G.theory l) (G.theory s.logic) (G.telling l) (G.telling s.logic) (G.lawful s.logic)
    pub laws : Laws (G.theory l)

  -- In the middle of it: from the session e at the start, the first calls have led to s.
  pub record Playing (e : Session X) (calls : List Call) (s : Session X) (replies : List (Result Reply Refusal)) : Type 0 where
    pub led : LedBy s (map call_of calls) (map reply_of replies)
    pub kept : Kept (G.theory e.logic) (G.theory s.logic) (G.telling e.logic) (G.telling s.logic) (G.lawful s.logic)
