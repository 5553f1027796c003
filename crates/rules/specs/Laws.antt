-- What the end of a walk says. Assumes nothing.
use Rattle.std.specs.Prelude.{◌≡◌, true, List, [], ◌↔◌, ℕ, ◌+◌, ◌<◌, ◌≤◌, length}
use Rattle.logic.specs.Trees.{World}
use Rattle.logic.specs.Theories.{Theory, AllTrue, Freest}
use Rattle.logic.specs.declared.Equation.{Equation}
use Rattle.rules.specs.declared.Literal.{Literal}
use Rattle.rules.specs.Rules.{MeetsAll, HadAll, product}
use Rattle.rules.specs.Walks.{End, Walk}

-- No own world meets every rule.
abbrev pub Never : Theory → List (List Literal) → Type 0
Never t R = (w : World) → t.own w → MeetsAll t w R → ⊥

-- The choices C are an answer to the rules R: they number at most the rules, and in some own world the choices are true,
-- every rule is met, and an equation that the theory has is true exactly when every own world that makes the choices true
-- makes it true.
pub record Example (t : Theory) (R : List (List Literal)) (C : List Equation) : Type 0 where
  pub few : length C ≤ length R
  pub world : World
  pub own : t.own world
  pub choices : AllTrue t world C
  pub meets : MeetsAll t world R
  pub exactly : (e : Equation) → t.has e ≡ true → t.holds world e ↔ ((w : World) → t.own w → AllTrue t w C → t.holds w e)

-- A whole walk that ends in a dead end: no own world meets every rule.
abbrev pub DeadLaw : Theory → Type 0
DeadLaw t = (R : List (List Literal)) (b m : ℕ) → Walk t R b [] 0 m End.dead → Never t R

-- One that finds choices, in a theory with a freest world there: they are an answer.
abbrev pub FoundLaw : Theory → Type 0
FoundLaw t = (R : List (List Literal)) (b m : ℕ) (C : List Equation) → HadAll t R → Walk t R b [] 0 m (End.found C) → Freest t C → Example t R C

-- The trials and one more are at most the product, and within the budget; with a budget of at least the product less one
-- the walk is not spent.
abbrev pub TrialsLaw : Theory → Type 0
TrialsLaw t = (R : List (List Literal)) (b m : ℕ) (o : End) → HadAll t R → Walk t R b [] 0 m o
    → (m + 1 ≤ product R) × (m ≤ b) × (o ≡ End.spent → b + 1 < product R)

-- A walk ends in one way, after one number of trials.
abbrev pub OneLaw : Theory → Type 0
OneLaw t = (R : List (List Literal)) (b m m' : ℕ) (o o' : End) → Walk t R b [] 0 m o → Walk t R b [] 0 m' o' → (m ≡ m') × (o ≡ o')

-- A walk that is not spent is the same walk at every budget that its trials fit; at every smaller one the walk is spent,
-- after just that many trials.
abbrev pub BudgetLaw : Theory → Type 0
BudgetLaw t = (R : List (List Literal)) (b c m m' : ℕ) (o o' : End) → HadAll t R → Walk t R b [] 0 m o → (o ≡ End.spent → ⊥) → Walk t R c [] 0 m' o'
    → (m ≤ c → (m' ≡ m) × (o' ≡ o)) × (c < m → (m' ≡ c) × (o' ≡ End.spent))

-- Where the budget b is spent, every smaller one is.
abbrev pub SpentLaw : Theory → Type 0
SpentLaw t = (R : List (List Literal)) (b c m m' : ℕ) (o' : End) → HadAll t R → Walk t R b [] 0 m End.spent → c ≤ b → Walk t R c [] 0 m' o'
    → (m' ≡ c) × (o' ≡ End.spent)

-- The laws of the walk over a theory.
pub record Laws (t : Theory) : Type 0 where
  pub dead : DeadLaw t
  pub found : FoundLaw t
  pub trials : TrialsLaw t
  pub one : OneLaw t
  pub budgets : BudgetLaw t
  pub spent : SpentLaw t
