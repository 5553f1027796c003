-- What the calls of a pair and of its sides leave behind. Assumes nothing.
use Rattle.std.specs.Prelude.{◌≡◌, ℕ, List, [], take}
use Rattle.logic.specs.Theories.{Theory}
use Rattle.logic.specs.Tellings.{Telling}
use Rattle.logic.specs.Answers.{Outcome, Assumes, Kept}
use Rattle.logic.specs.declared.Equation.{Equation}
use Rattle.sides.specs.declared.Side.{Side}
use Rattle.sides.specs.Sides.{opposite}

-- The side s was asked to assume d, with the outcome o: both sides keep what no call changes, and the other side has the
-- standing equations that it had. Here ts, ps and old are before the call, and us, qs, after and new after it.
pub record Asked (ts us : Side → Theory) (ps qs : Side → Telling) (after : Side → Type 0) (old new : Side → List Equation) (s : Side) (d : Equation) (o : Outcome) : Type 0 where
  pub kept : (k : Side) → Kept (ts k) (us k) (ps k) (qs k) (after k)
  pub assumes : Assumes (ts s) (old s) d o (new s)
  pub other : new (opposite s) ≡ old (opposite s)

-- Each side was sent back to as many equations as ns says: it keeps what no call changes, and its oldest so many stand.
pub record SentBack (ts us : Side → Theory) (ps qs : Side → Telling) (after : Side → Type 0) (old new : Side → List Equation) (ns : Side → ℕ) : Type 0 where
  pub kept : (k : Side) → Kept (ts k) (us k) (ps k) (qs k) (after k)
  pub oldest : (k : Side) → new k ≡ take (ns k) (old k)

-- A pair was made of two logics: it is lawful (good), with their theories and their tellings, and nothing stands in it.
pub record Begun (t u : Theory) (p q : Telling) (good : Type 0) (es : List Equation) : Type 0 where
  pub kept : Kept t u p q good
  pub nothing : es ≡ []
