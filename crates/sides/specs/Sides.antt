-- The two sides of numbers, of equations and of worlds. Assumes nothing.
use Rattle.std.specs.Prelude.{ℕ, ◌+◌, ◌*◌, ◌/◌, ◌%◌, Bool, true, false, cond, List, [], ◌∷◌, Some, None, Option, ◌==◌}
use Rattle.logic.specs.Trees.{World}
use Rattle.logic.specs.declared.Equation.{Equation}
use Rattle.sides.specs.declared.Side.{Side}
use Rattle.sides.specs.declared.Side.TheVariants.{First, Second}

-- Of two things the one on that side.
abbrev pub pick {ℓ} : {A : Type ℓ} → A → A → Side → A
pick a b First = a
pick a b Second = b

-- The other side.
abbrev pub opposite : Side → Side
opposite First = Second
opposite Second = First

-- The two sides are one.
abbrev pub same_side : Side → Side → Bool
same_side First First = true
same_side First Second = false
same_side Second First = false
same_side Second Second = true

-- The side of a number: the even ones are the first's.
abbrev pub side_at : ℕ → Side
side_at n = cond (n % 2 == 0) First Second

-- The number n of a side, among the numbers of both: 2n of the first, 2n + 1 of the second.
abbrev pub doubled : Side → ℕ → ℕ
doubled First n = 2 * n
doubled Second n = 2 * n + 1

-- An equation between two numbers of one side is a part of that side, with both numbers halved; no other is a part.
abbrev pub part_of : Equation → Option (Side × Equation)
part_of e = cond (e.left % 2 == e.right % 2) (Some (side_at e.left, record { left = e.left / 2; right = e.right / 2 })) None

-- The part is one of that side.
abbrev pub belongs : Side → Option (Side × Equation) → Bool
belongs s None = false
belongs s (Some p) = same_side s p.0

-- The list with the equation d of side k before it, where that is the side s.
abbrev pub only : Side → Side → Equation → List Equation → List Equation
only First First d es = d ∷ es
only First Second d es = es
only Second First d es = es
only Second Second d es = d ∷ es

-- The list with a part before it, where it is one of that side.
abbrev pub keep : Side → Option (Side × Equation) → List Equation → List Equation
keep s None es = es
keep s (Some p) es = only s p.0 p.1 es

-- The share of a side in some equations: the parts of that side, in their order.
abbrev pub share : Side → List Equation → List Equation
share s [] = []
share s (e ∷ es) = keep s (part_of e) (share s es)

-- A side of a world: the trees of that side's numbers.
abbrev pub world_of : Side → World → World
world_of s w = record { tree = λ n. w.tree (doubled s n); grounded = λ n. w.grounded (doubled s n) }

-- The world that gives to n the tree that the world of side s n gives to h n.
abbrev pub woven : (Side → World) → (ℕ → Side) → (ℕ → ℕ) → World
woven ws s h = record { tree = λ n. (ws (s n)).tree (h n); grounded = λ n. (ws (s n)).grounded (h n) }

-- The world with these two sides.
abbrev pub joined : (Side → World) → World
joined ws = woven ws side_at (λ n. n / 2)
