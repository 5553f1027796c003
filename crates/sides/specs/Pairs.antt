-- Two theories side by side, and when a pair of logics is lawful. Assumes nothing.
use Rattle.std.specs.Prelude.{◌≡◌, Bool, false, List, Some, None, Option}
use Rattle.logic.specs.Trees.{World}
use Rattle.logic.specs.Theories.{Theory}
use Rattle.logic.specs.declared.Equation.{Equation}
use Rattle.sides.specs.declared.Side.{Side}
use Rattle.sides.specs.Sides.{part_of, share, world_of}

-- Whether a part is had: by the theory of its side. What is no part is not had.
abbrev pub had : (Side → Theory) → Option (Side × Equation) → Bool
had ts None = false
had ts (Some p) = (ts p.0).has p.1

-- A part is true in a world: in its side of the world, by the theory of its side. What is no part says nothing.
abbrev pub Holds : (Side → Theory) → World → Option (Side × Equation) → Type 0
Holds ts w None = Unit {0}
Holds ts w (Some p) = (ts p.0).holds (world_of p.0 w) p.1

-- The theory of two side by side: it has the parts that their sides have, a world is own when each side of it is.
abbrev pub paired : (Side → Theory) → Theory
paired ts = record {
  has = λ e. had ts (part_of e);
  own = λ w. (s : Side) → (ts s).own (world_of s w);
  holds = λ w e. Holds ts w (part_of e);
}

-- A pair in which es stand is lawful: each side is, and what stands in a side is its share of es.
pub record LawfulPair (good : Side → Type 0) (stands : Side → List Equation) (es : List Equation) : Type 0 where
  pub each : (s : Side) → good s
  pub shares : (s : Side) → stands s ≡ share s es
