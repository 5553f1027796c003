-- What two logics are and do, by their sides and by their ghost members. Assumes nothing.
use Rattle.std.specs.Prelude.{ℕ, List}
use Rattle.logic.specs.Answers.{Outcome}
use Rattle.logic.specs.declared.Equation.{Equation}
use Rattle.logic.specs.declared.Logic.{Ghosts}
use Rattle.sides.specs.declared.Side.{Side}
use Rattle.sides.specs.Sides.{pick}
use Rattle.sides.specs.Pairs.{paired, LawfulPair}
use Rattle.sides.specs.Tellings.{paired_telling}
use Rattle.sides.specs.Calls.{Asked, SentBack, Begun}
use Rattle.pair.specs.declared.both.Both.{Both}

-- What the one gives for the first logic and the other for the second.
abbrev pub by_side {ℓ} : {A B : Type 0} {X : Type ℓ} → (A → X) → (B → X) → Both A B → Side → X
by_side f g b = pick (f b.first) (g b.second)

-- Of two logics, by their ghost members.
module _ {A B : Type 0} (G : Ghosts A) (H : Ghosts B) where
  -- The two logics with es standing in both together are a lawful pair.
  abbrev pub Lawful : Both A B → List Equation → Type 0
  Lawful b es = LawfulPair (by_side G.lawful H.lawful b) (by_side G.stands H.stands b) es

  -- The side s of b was asked to assume d, with the outcome o, and that made z of b, if both logics were lawful.
  abbrev pub Asks : Both A B → Side → Equation → Outcome → Both A B → Type 0
  Asks b s d o z = ((k : Side) → by_side G.lawful H.lawful b k)
      → Asked (by_side G.theory H.theory b) (by_side G.theory H.theory z) (by_side G.telling H.telling b) (by_side G.telling H.telling z)
      (by_side G.lawful H.lawful z) (by_side G.stands H.stands b) (by_side G.stands H.stands z) s d o

  -- The first logic of b was sent back to n equations and the second to m, and that made z of b, if both were lawful.
  abbrev pub Backs : Both A B → ℕ → ℕ → Both A B → Type 0
  Backs b n m z = ((k : Side) → by_side G.lawful H.lawful b k)
      → SentBack (by_side G.theory H.theory b) (by_side G.theory H.theory z) (by_side G.telling H.telling b) (by_side G.telling H.telling z)
      (by_side G.lawful H.lawful z) (by_side G.stands H.stands b) (by_side G.stands H.stands z) (pick n m)

  -- Out of x and y a pair of z was made, in which es stand: it is lawful, with their theories side by side and their tellings,
  -- and nothing stands in it.
  abbrev pub Begins : A → B → Both A B → List Equation → Type 0
  Begins x y z es =
      Begun (paired (pick (G.theory x) (H.theory y))) (paired (by_side G.theory H.theory z))
      (paired_telling (pick (G.telling x) (H.telling y))) (paired_telling (by_side G.telling H.telling z)) (Lawful z es) es
