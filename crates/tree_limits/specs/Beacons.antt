-- A logic that has no equation, and tells one term. Assumes nothing.
use Rattle.std.specs.Prelude.{◌≡◌, ℕ, ◌<◌, false, List}
use Rattle.logic.specs.Trees.{World, towers}
use Rattle.logic.specs.Theories.{Theory}
use Rattle.logic.specs.Tellings.{Told, Telling}
use Rattle.logic.specs.Tellings.Told.{told, refused}
use Rattle.logic.specs.declared.Equation.{Equation}

-- No equation is had, and every world is own.
abbrev pub nothing : Theory
nothing = record { has = λ e. false; own = λ w. Unit {0}; holds = λ w e. Unit {0} }

-- Of 0 the term t is told, whatever stands, and nothing else is told.
abbrev pub OneTerm : ℕ → ℕ → Told → Type 0
OneTerm t n (told kind number) = (n ≡ 0) × (kind ≡ 1) × (number ≡ t)
OneTerm t n (refused number) = (0 < n) × (number ≡ 17)

-- Every term has the tree of the place 0.
abbrev pub one_term : ℕ → Telling
one_term t = record { place = λ n. n; value = λ w m. w.tree 0; answer = λ es n a. OneTerm t n a }

-- The world with base everywhere.
abbrev pub all_base : World
all_base = towers (λ n. 0)
