-- Which rules a walk has used. Below a taken equation its rule is never open again. Assumes nothing.
use Rattle.std.specs.Prelude.{Bool, true, false, List, [], ◌∷◌, ℕ, zero, suc, ◌+◌, ◌*◌, ◌≤◌, length}
use Rattle.logic.specs.Theories.{Theory}
use Rattle.logic.specs.declared.Equation.{Equation}
use Rattle.rules.specs.declared.Literal.{Literal}
use Rattle.rules.specs.Rules.{equations, width, HadAll}
use Rattle.rules.specs.Openness.{NoneForced}

-- Marks say of each rule whether it is used; past their end none is. Of each used rule an equation is forced.
abbrev pub Used : Theory → List Equation → List Bool → List (List Literal) → Type 0
Used t S ms [] = Unit {0}
Used t S [] (r ∷ R) = Unit {0}
Used t S (true ∷ ms) (r ∷ R) = (NoneForced t S (equations r) → ⊥) × Used t S ms R
Used t S (false ∷ ms) (r ∷ R) = Used t S ms R

-- The product over the rules that are not used.
abbrev pub unused_product : List Bool → List (List Literal) → ℕ
unused_product ms [] = 1
unused_product [] (r ∷ R) = (1 + width r) * unused_product [] R
unused_product (true ∷ ms) (r ∷ R) = unused_product ms R
unused_product (false ∷ ms) (r ∷ R) = (1 + width r) * unused_product ms R

-- How many are not used.
abbrev pub unused : List Bool → List (List Literal) → ℕ
unused ms [] = 0
unused [] (r ∷ R) = suc (unused [] R)
unused (true ∷ ms) (r ∷ R) = unused ms R
unused (false ∷ ms) (r ∷ R) = suc (unused ms R)

-- The marks with rule k used.
abbrev pub mark : List Bool → ℕ → List Bool
mark [] zero = true ∷ []
mark [] (suc k) = false ∷ mark [] k
mark (x ∷ ms) zero = true ∷ ms
mark (x ∷ ms) (suc k) = x ∷ mark ms k

-- Where S stand, some marks leave at most d rules unused, and the standing equations with one for each of these are at
-- most 256: a walk from here goes at most d deep and always has room.
pub record Ready (t : Theory) (R : List (List Literal)) (S : List Equation) (d : ℕ) : Type 0 where
  pub had : HadAll t R
  pub marks : List Bool
  pub used : Used t S marks R
  pub deep : unused marks R ≤ d
  pub room : length S + unused marks R ≤ 256
