-- What a logic that can tell says of its example. Assumes nothing.
use Rattle.std.specs.Prelude.{◌≡◌, ℕ, zero, suc, ◌↔◌, List, Ok, Err, Result}
use Rattle.logic.specs.Trees.{Tree, World, tower}
use Rattle.logic.specs.Refusals.{refusal_number}
use Rattle.logic.specs.declared.Equation.{Equation}
use Rattle.logic.specs.declared.Kind.{Kind}
use Rattle.logic.specs.declared.Kind.TheVariants as K
use Rattle.logic.specs.declared.Refusal.{Refusal}

-- The number of a kind.
abbrev pub kind_number : Kind → ℕ
kind_number K.Tower = 0
kind_number K.Term = 1

-- What `tell` answers: a kind and a number, or a refusal by its number.
pub data Told : Type 0 where
  told : ℕ → ℕ → Told
  refused : ℕ → Told

-- The answer that a result of `tell` stands for.
abbrev pub answer_of : Result (Kind × ℕ) Refusal → Told
answer_of (Ok p) = told (kind_number p.0) p.1
answer_of (Err r) = refused (refusal_number r)

-- What a logic tells, fixed as its theory is: the place whose tree it tells for a number, the value of a term in
-- a world, and which answers it gives for a number where some equations stand.
pub record Telling : Type 1 where
  pub place : ℕ → ℕ
  pub value : World → ℕ → Tree
  pub answer : List Equation → ℕ → Told → Type 0

-- The telling of a logic that can't tell: no answer.
abbrev pub silent : Telling
silent = record { place = λ n. n; value = λ w n. w.tree n; answer = λ es n a. ⊥ }

-- Two tellings agree at each point.
pub record SameTelling (t u : Telling) : Type 0 where
  pub place : (n : ℕ) → t.place n ≡ u.place n
  pub value : (w : World) (n : ℕ) → t.value w n ≡ u.value w n
  pub answer : (es : List Equation) (n : ℕ) (a : Told) → t.answer es n a ↔ u.answer es n a

-- The answer names the tree x, in the world w: kind 0 the tower of that height, kind 1 the value of that term.
-- There is no other kind, and a refusal names nothing.
abbrev pub Names : Telling → World → Told → Tree → Type 0
Names t w (told zero h) x = x ≡ tower h
Names t w (told (suc zero) m) x = x ≡ t.value w m
Names t w (told (suc (suc k)) m) x = ⊥
Names t w (refused n) x = Unit {0}
