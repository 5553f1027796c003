-- Rules, and when a world meets them. Assumes nothing.
use Rattle.std.specs.Prelude.{◌≡◌, true, List, [], ◌∷◌, ◌⊎◌, ℕ, ◌+◌, ◌*◌, ◌<◌, length, get_or}
use Rattle.logic.specs.Trees.{World}
use Rattle.logic.specs.Theories.{Theory}
use Rattle.logic.specs.declared.Equation.{Equation}
use Rattle.rules.specs.declared.Literal.{Literal}
use Rattle.rules.specs.declared.Literal.TheVariants as V

-- The equation that a literal asserts or denies.
abbrev pub equation_of : Literal → Equation
equation_of (V.Equal e) = e
equation_of (V.Denied e) = e

-- A rule is a list of literals in written order. Its equations, repeats kept.
abbrev pub equations : List Literal → List Equation
equations [] = []
equations (V.Equal e ∷ r) = e ∷ equations r
equations (V.Denied e ∷ r) = equations r

-- Its denied equations.
abbrev pub denied : List Literal → List Equation
denied [] = []
denied (V.Equal e ∷ r) = denied r
denied (V.Denied e ∷ r) = e ∷ denied r

-- How many equations it has, repeats counted.
abbrev pub width : List Literal → ℕ
width r = length (equations r)

-- The world meets the rule: it meets one of its literals. It meets an equation that it makes true, and a denial whose
-- equation it makes false.
abbrev pub Meets : Theory → World → List Literal → Type 0
Meets t w [] = ⊥
Meets t w (V.Equal e ∷ r) = t.holds w e ⊎ Meets t w r
Meets t w (V.Denied e ∷ r) = (t.holds w e → ⊥) ⊎ Meets t w r

-- The world meets every rule.
abbrev pub MeetsAll : Theory → World → List (List Literal) → Type 0
MeetsAll t w R = (k : ℕ) → k < length R → Meets t w (get_or R k [])

-- The theory has every equation of the list.
abbrev pub AllHad : Theory → List Equation → Type 0
AllHad t [] = Unit {0}
AllHad t (e ∷ es) = (t.has e ≡ true) × AllHad t es

-- The theory has every equation of the rule, denied or not.
abbrev pub Had : Theory → List Literal → Type 0
Had t r = AllHad t (equations r) × AllHad t (denied r)

-- It has every equation of every rule.
abbrev pub HadAll : Theory → List (List Literal) → Type 0
HadAll t R = (k : ℕ) → k < length R → Had t (get_or R k [])

-- The product, over the rules, of one more than the rule's equations: the budget figure.
abbrev pub product : List (List Literal) → ℕ
product [] = 1
product (r ∷ R) = (1 + width r) * product R
