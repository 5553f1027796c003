-- Which rules are open where some equations stand, and which of them is taken. Assumes nothing.
use Rattle.std.specs.Prelude.{List, [], ◌∷◌, ◌⊎◌, ℕ, ◌<◌, ◌≤◌, length, get_or}
use Rattle.logic.specs.Theories.{Theory, Forced}
use Rattle.logic.specs.declared.Equation.{Equation}
use Rattle.rules.specs.declared.Literal.{Literal}
use Rattle.rules.specs.declared.Literal.TheVariants as V
use Rattle.rules.specs.Rules.{equations, denied, width}

-- Where S stand, all of the equations are forced.
abbrev pub AllForced : Theory → List Equation → List Equation → Type 0
AllForced t S [] = Unit {0}
AllForced t S (e ∷ es) = Forced t S e × AllForced t S es

-- None of them is.
abbrev pub NoneForced : Theory → List Equation → List Equation → Type 0
NoneForced t S [] = Unit {0}
NoneForced t S (e ∷ es) = (Forced t S e → ⊥) × NoneForced t S es

-- Where S stand, the rule is open: all its denied equations are forced, and none of its equations is.
abbrev pub Open : Theory → List Equation → List Literal → Type 0
Open t S r = AllForced t S (denied r) × NoneForced t S (equations r)

-- It is settled: one of its equations is forced, or one of its denied equations is not.
abbrev pub Settled : Theory → List Equation → List Literal → Type 0
Settled t S [] = ⊥
Settled t S (V.Equal e ∷ r) = Forced t S e ⊎ Settled t S r
Settled t S (V.Denied e ∷ r) = (Forced t S e → ⊥) ⊎ Settled t S r

-- No rule is open: every rule is settled.
abbrev pub AllSettled : Theory → List Equation → List (List Literal) → Type 0
AllSettled t S R = (k : ℕ) → k < length R → Settled t S (get_or R k [])

-- Rule k is taken: it is open, no open rule has fewer equations, and every open rule posted earlier has more.
pub record TakenRule (t : Theory) (S : List Equation) (R : List (List Literal)) (k : ℕ) : Type 0 where
  pub within : k < length R
  pub opens : Open t S (get_or R k [])
  pub fewest : (j : ℕ) → j < length R → Open t S (get_or R j []) → width (get_or R k []) ≤ width (get_or R j [])
  pub earliest : (j : ℕ) → j < k → Open t S (get_or R j []) → width (get_or R k []) < width (get_or R j [])
