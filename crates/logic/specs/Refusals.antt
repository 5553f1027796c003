-- The refusals of a logic's calls, by their numbers. Assumes nothing.
use Rattle.std.specs.Prelude.{ℕ}
use Rattle.logic.specs.declared.Refusal.{Refusal}
use Rattle.logic.specs.declared.Refusal.TheVariants as R

-- 12: the logic lacks the equation. 17: nothing is told of that number. 38: a 257th standing equation.
abbrev pub refusal_number : Refusal → ℕ
refusal_number R.Foreign = 12
refusal_number R.Untold = 17
refusal_number R.Full = 38
