-- What a rule is judged to be, and the pick among rules. Assumes nothing.
use Rattle.std.specs.Prelude.{◌≡◌, ℕ, ◌<◌, ◌≤◌, Bool, true, false, List, [], Some, None, Option, slice_index_or}
use Rattle.logic.specs.Theories.{Theory, Forced}
use Rattle.logic.specs.declared.Equation.{Equation}
use Rattle.rules.specs.declared.Literal.{Literal}
use Rattle.rules.specs.declared.Literal.TheVariants as V
use Rattle.rules.specs.Rules.{width}
use Rattle.rules.specs.Openness.{Open, Settled, AllSettled, TakenRule}

-- Where S stand, the literal leaves its rule open: an equation that is not forced, or a denied one that is.
abbrev pub Leaves : Theory → List Equation → Literal → Type 0
Leaves t S (V.Equal e) = Forced t S e → ⊥
Leaves t S (V.Denied e) = Forced t S e

-- It settles its rule: an equation that is forced, or a denied one that is not.
abbrev pub Settles : Theory → List Equation → Literal → Type 0
Settles t S (V.Equal e) = Forced t S e
Settles t S (V.Denied e) = Forced t S e → ⊥

-- Where S stand, the rule is open, or else it is settled.
abbrev pub Judged : Theory → List Equation → List Literal → Bool → Type 0
Judged t S r true = Open t S r
Judged t S r false = Settled t S r

-- The rule that is taken, or none where every rule is settled.
abbrev pub Picks : Theory → List Equation → List (List Literal) → Option ℕ → Type 0
Picks t S R None = AllSettled t S R
Picks t S R (Some k) = TakenRule t S R k

-- Of the first i rules, rule k is open and has the fewest equations, w, and is the earliest such.
pub record Best (t : Theory) (S : List Equation) (R : List (List Literal)) (i k w : ℕ) : Type 0 where
  pub within : k < i
  pub opens : Open t S (slice_index_or R k [])
  pub wide : w ≡ width (slice_index_or R k [])
  pub fewest : (j : ℕ) → j < i → Open t S (slice_index_or R j []) → w ≤ width (slice_index_or R j [])
  pub earliest : (j : ℕ) → j < k → Open t S (slice_index_or R j []) → w < width (slice_index_or R j [])

-- The best of the first i rules, or none where they are all settled.
abbrev pub BestOf : Theory → List Equation → List (List Literal) → ℕ → Option (ℕ × ℕ) → Type 0
BestOf t S R i None = (j : ℕ) → j < i → Settled t S (slice_index_or R j [])
BestOf t S R i (Some b) = Best t S R i b.0 b.1

-- Its place is one of the first i.
abbrev pub Within : ℕ → Option (ℕ × ℕ) → Type 0
Within i None = Unit {0}
Within i (Some b) = b.0 < i
