-- The theory of 256 switches, and what is told of each. Assumes nothing.
use Rattle.std.specs.Prelude.{◌≡◌, ℕ, ◌<◌, ◌≤◌, Bool, false, cond, ◌&&◌, ◌||◌, List, [], ◌∷◌, ◌==◌, nat_lt}
use Rattle.logic.specs.Trees.{World, base, towers}
use Rattle.logic.specs.Theories.{Theory, Forced}
use Rattle.logic.specs.Tellings.{Told, Telling}
use Rattle.logic.specs.Tellings.Told.{told, refused}
use Rattle.logic.specs.declared.Equation.{Equation}

-- The equation (s, 0), which says that switch s is on.
abbrev pub switched : ℕ → Equation
switched s = record { left = s; right = 0 }

-- The switches are 0 to 255. Every world is own. Switch s is on where the tree of s is base alone.
abbrev pub switches : Theory
switches = record {
  has = λ e. nat_lt e.left 256 && (e.right == 0);
  own = λ w. Unit {0};
  holds = λ w e. w.tree e.left ≡ base;
}

-- The height told of switch n where es stand: 0 where it is on, and 1 where it is off.
abbrev pub Height : List Equation → ℕ → ℕ → Type 0
Height es n height = (Forced switches es (switched n) → height ≡ 0) × ((Forced switches es (switched n) → ⊥) → height ≡ 1)

-- What is told of the number n where es stand: the tower of height 0 for a switch that is on (forced), the tower of
-- height 1 for one that is off, and refusal 17 for a number that is no switch.
abbrev pub SwitchTold : List Equation → ℕ → Told → Type 0
SwitchTold es n (told kind height) = (n < 256) × (kind ≡ 0) × Height es n height
SwitchTold es n (refused number) = (256 ≤ n) × (number ≡ 17)

-- The place of a switch is its number.
abbrev pub switch_telling : Telling
switch_telling = record { place = λ n. n; value = λ w n. w.tree n; answer = SwitchTold }

-- Whether an equation of switch s stands.
abbrev pub stands_on : List Equation → ℕ → Bool
stands_on [] s = false
stands_on (e ∷ es) s = e.left == s || stands_on es s

-- The told world: a switch of which an equation stands is base, and any other number one step over base.
abbrev pub told_by : List Equation → World
told_by es = towers (λ s. cond (stands_on es s) 0 1)
