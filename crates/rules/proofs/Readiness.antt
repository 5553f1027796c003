-- Room for another choice wherever a rule is open. Assumes nothing.
use mathlib.Core.Bool.{Bool, true, false}
use mathlib.Core.List.{List, [], ◌∷◌, ◌++◌}
use Prim.Native.Nat.{ℕ, ◌-◌, ◌<◌, ◌≤◌}
use native.Mathlib.Omega.{arith}
use lib.ListN.{length, get_or, length-append}
use Rattle.logic.specs.Theories.{Theory, Same}
use Rattle.logic.specs.declared.Equation.{Equation}
use Rattle.rules.specs.declared.Literal.{Literal}
use Rattle.rules.specs.Rules.{equations, HadAll}
use Rattle.rules.specs.Openness.{TakenRule}
use Rattle.rules.specs.Marks.{Used, mark, Ready}
use Rattle.rules.proofs.Basics.{In}
use Rattle.rules.proofs.Counts.{used_nil, unused_none, unused_mark, used_next}
use Rattle.rules.proofs.Moved.{none_back, rules_moved}

pub ready_room : (t : Theory) (R : List (List Literal)) (S : List Equation) (d k : ℕ) → Ready t R S d → TakenRule t S R k → (0 < d) × (length S < 256)
ready_room t R S d k y p =
    let less = unused_mark t S y.marks R k p.within y.used p.opens.1 in
    (omega (arith, less, y.deep), omega (arith, less, y.room))

pub ready_next : (t : Theory) (R : List (List Literal)) (S : List Equation) (d k : ℕ) (e : Equation) → Ready t R S d → TakenRule t S R k
    → In e (equations (get_or R k [])) → Ready t R (S ++ (e ∷ [])) (d - 1)
ready_next t R S d k e y p i =
    let less = unused_mark t S y.marks R k p.within y.used p.opens.1 in
    record {
      had = y.had;
      marks = mark y.marks k;
      used = used_next t S y.marks R k e y.used (y.had k p.within).0 i;
      deep = omega (arith, less, y.deep);
      room = omega (arith, less, y.room, length-append S (e ∷ []));
    }

pub ready_start : (t : Theory) (R : List (List Literal)) (d : ℕ) → HadAll t R → length R ≤ 256 → length R ≤ d → Ready t R [] d
ready_start t R d had few deep =
    record { had = had; marks = []; used = used_nil t [] R; deep = omega (arith, unused_none R); room = omega (arith, unused_none R) }

used_moved : (t u : Theory) → Same t u → (S : List Equation) (ms : List Bool) (R : List (List Literal)) → Used t S ms R → Used u S ms R
used_moved t u s S ms [] y = tt
used_moved t u s S [] (r ∷ R) y = tt
used_moved t u s S (true ∷ ms) (r ∷ R) y = (λ none. y.0 (none_back t u s S (equations r) none), used_moved t u s S ms R y.1)
used_moved t u s S (false ∷ ms) (r ∷ R) y = used_moved t u s S ms R y

pub ready_moved : (t u : Theory) → Same t u → (R : List (List Literal)) (S : List Equation) (d : ℕ) → Ready t R S d → Ready u R S d
ready_moved t u s R S d y =
    record { had = rules_moved t u s R y.had; marks = y.marks; used = used_moved t u s S y.marks R y.used; deep = y.deep; room = y.room }
