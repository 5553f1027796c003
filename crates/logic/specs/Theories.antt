-- What a logic is about, and what follows where some of its equations stand. Assumes nothing.
use Rattle.std.specs.Prelude.{◌≡◌, Bool, true, ◌↔◌, List, [], ◌∷◌}
use Rattle.logic.specs.Trees.{World}
use Rattle.logic.specs.declared.Equation.{Equation}

-- The three fixed things of a logic: which equations it has, which worlds are its own, and which of its
-- equations are true in each own world.
pub record Theory : Type 1 where
  pub has : Equation → Bool
  pub own : World → Type 0
  pub holds : World → Equation → Type 0

-- Two theories agree at each point. (An equation between theories would be no fact of Type 0.)
pub record Same (t u : Theory) : Type 0 where
  pub has : (e : Equation) → t.has e ≡ u.has e
  pub own : (w : World) → t.own w ↔ u.own w
  pub holds : (w : World) (e : Equation) → t.holds w e ↔ u.holds w e

-- The world makes every equation of the list true.
abbrev pub AllTrue : Theory → World → List Equation → Type 0
AllTrue t w [] = Unit {0}
AllTrue t w (e ∷ es) = t.holds w e × AllTrue t w es

-- Where es stand, e is forced: the theory has it, and every own world that makes all of es true makes it true.
abbrev pub Forced : Theory → List Equation → Equation → Type 0
Forced t es e = (t.has e ≡ true) × ((w : World) → t.own w → AllTrue t w es → t.holds w e)

-- Where es stand, e clashes: no own world makes es and e true.
abbrev pub Clash : Theory → List Equation → Equation → Type 0
Clash t es e = (w : World) → t.own w → AllTrue t w es → t.holds w e → ⊥

-- Where es stand, w is a freest world: it is own, it makes every standing equation true, and an equation that
-- the theory has is true in it only if it is forced, so that each one that is not forced is false.
pub record FreestAt (t : Theory) (es : List Equation) (w : World) : Type 0 where
  pub own : t.own w
  pub all : AllTrue t w es
  pub free : (e : Equation) → t.has e ≡ true → t.holds w e → Forced t es e

-- Where es stand, there is a freest world.
abbrev pub Freest : Theory → List Equation → Type 0
Freest t es = (w : World) × FreestAt t es w
