-- Rows of names and of compound terms. Assumes nothing.
use Rattle.std.proofs.Common.{◌≡◌, ℕ, ◌<◌, ◌⊎◌, List, length, get_or, sym, refl, subst, inl, inr, arith}
use mathlib.Core.HLevel.{hedberg, ⊥_prop, Unit-prop}
use mathlib.Core.List.{List-discrete}
use native.Mathlib.Decide.{ℕ_discrete}
use Rattle.terms.specs.Sheets.{Row, Row-discrete, row, arguments, Compound, Sheet}

-- a row is a name's or a compound term's
pub row_cases : (r : Row) → (r ≡ Row.name) ⊎ Compound r
row_cases Row.name = inl refl
row_cases (Row.over s xs) = inr tt

-- and not both
pub name_bare : (r : Row) → r ≡ Row.name → Compound r → ⊥
name_bare r e c = subst Compound e c

-- a symbol over its arguments is a compound term's row
pub over_compound : (r : Row) (s : ℕ) (xs : List ℕ) → r ≡ Row.over s xs → Compound r
over_compound r s xs e = subst Compound (sym e) tt

-- rows are a set
pub row_set : IsSet Row
row_set = hedberg (Row-discrete ℕ_discrete (List-discrete ℕ_discrete))

-- to be compound has one proof
pub compound_prop : (r : Row) → IsProp (Compound r)
compound_prop Row.name = ⊥_prop
compound_prop (Row.over s xs) = Unit-prop

-- each argument of a term of a sheet has a lower number
pub arguments_lower : (ar : List ℕ) (rs : List Row) → Sheet ar rs → (n i : ℕ) → n < length rs → i < length (arguments (row rs n))
    → get_or (arguments (row rs n)) i 0 < n
arguments_lower ar rs sheet n i h = lower (row rs n) refl
  where
    lower : (r : Row) → row rs n ≡ r → i < length (arguments r) → get_or (arguments r) i 0 < n
    lower Row.name e k = absurd (omega arith)
    lower (Row.over s xs) e k = (sheet.rows n s xs h e).lower i k
