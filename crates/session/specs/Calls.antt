-- The calls of a session and the replies to them. Assumes nothing.
use Rattle.std.specs.Prelude.{ℕ, List}
use Rattle.rules.specs.declared.Literal.{Literal}
use Rattle.walk.specs.declared.Word.{Word}

-- A call, with its values.
pub data Asking : Type 0 where
  post : List Literal → Asking
  opens : Asking
  closes : Asking
  ask : ℕ → Asking
  choice : ℕ → Asking

-- A reply: granted, refused with a number, the word of an ask and its trials, or the two sides of a choice.
pub data Answer : Type 0 where
  granted : Answer
  refused : ℕ → Answer
  answered : Word → ℕ → Answer
  chosen : ℕ → ℕ → Answer
