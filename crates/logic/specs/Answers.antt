-- What `assume` and `back` answer and leave behind. Assumes nothing.
use Rattle.std.specs.Prelude.{◌≡◌, ℕ, ◌<◌, true, false, ◌⊎◌, List, [], ◌∷◌, ◌++◌, length, Ok, Err, Result}
use Rattle.logic.specs.Theories.{Theory, Same, Clash}
use Rattle.logic.specs.Tellings.{Telling, SameTelling}
use Rattle.logic.specs.Refusals.{refusal_number}
use Rattle.logic.specs.declared.Equation.{Equation}
use Rattle.logic.specs.declared.Assumed.{Assumed}
use Rattle.logic.specs.declared.Assumed.TheVariants as V
use Rattle.logic.specs.declared.Refusal.{Refusal}

-- What `assume` answers: refused with a number, clash, or taken.
pub data Outcome : Type 0 where
  refused : ℕ → Outcome
  clash : Outcome
  taken : Outcome

-- The outcome that a result of `assume` stands for.
abbrev pub outcome_of : Result Assumed Refusal → Outcome
outcome_of (Err r) = refused (refusal_number r)
outcome_of (Ok V.Clash) = clash
outcome_of (Ok V.Taken) = taken

-- Where es stand, `assume e` is refused with n: with 12 where the theory lacks e, and otherwise with 38 where
-- 256 equations stand.
abbrev pub Refuses : Theory → List Equation → Equation → ℕ → Type 0
Refuses t es e n = ((t.has e ≡ false) × (n ≡ 12)) ⊎ ((t.has e ≡ true) × (length es ≡ 256) × (n ≡ 38))

-- Where es stand, o is the outcome of `assume e`, and fs stand after it.
abbrev pub Assumes : Theory → List Equation → Equation → Outcome → List Equation → Type 0
Assumes t es e (refused n) fs = Refuses t es e n × (fs ≡ es)
Assumes t es e clash fs = (t.has e ≡ true) × (length es < 256) × Clash t es e × (fs ≡ es)
Assumes t es e taken fs = (t.has e ≡ true) × (length es < 256) × (Clash t es e → ⊥) × (fs ≡ es ++ (e ∷ []))

-- What no call changes: the theory and the telling are as they were, and a lawful logic stays lawful (`after`).
pub record Kept (t u : Theory) (p q : Telling) (after : Type 0) : Type 0 where
  pub lawful : after
  pub theory : Same u t
  pub telling : SameTelling q p

-- A call that a logic leaves as z, which was s, keeps all that, if s was lawful.
module _ {X : Type 0} (theory : X → Theory) (telling : X → Telling) (lawful : X → Type 0) where
  abbrev pub Keeps : X → X → Type 0
  Keeps s z = lawful s → Kept (theory s) (theory z) (telling s) (telling z) (lawful z)
