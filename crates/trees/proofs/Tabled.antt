-- A settled table is one to bring two terms together in. Assumes nothing.
use mathlib.Core.HLevel.{hedberg, ×_prop}
use Rattle.std.proofs.Common.{ℕ, List, map, length, get_or}
use mathlib.Core.Logic.{∥∥₁_elim}
use native.Mathlib.Bridge.{le_prop}
use native.Mathlib.Decide.{ℕ_discrete}
use Rattle.logic.specs.declared.Equation.{Equation}
use Rattle.terms.specs.Sheets.{Row, row}
use Rattle.terms.proofs.Rows.{row_set, compound_prop}
use Rattle.classes.specs.Classes.{class, Settled}
use Rattle.unify.specs.Settling.{Tabled}

pub settled_tabled : (rs : List Row) (es : List Equation) (ls hs : List ℕ) → ∥ Settled rs es ls hs ∥₁ → Tabled rs ls hs
settled_tabled rs es ls hs x =
    record {
      lowest = record {
        long = ∥∥₁_elim x (hedberg ℕ_discrete (length ls) (length rs)) (λ y. y.lowest.long);
        low = λ a h. ∥∥₁_elim x le_prop (λ y. y.lowest.low a h);
        own = λ a h. ∥∥₁_elim x (hedberg ℕ_discrete (class ls (class ls a)) (class ls a)) (λ y. y.lowest.own a h);
      };
      heads = record {
        long = ∥∥₁_elim x (hedberg ℕ_discrete (length hs) (length rs)) (λ y. y.heads.long);
        some = λ a h k. ∥∥₁_elim x (×_prop (hedberg ℕ_discrete (class ls (get_or hs a 0)) a) (compound_prop (row rs (get_or hs a 0)))) (λ y. y.heads.some a h k);
        each = λ t h compound. ∥∥₁_elim x le_prop (λ y. y.heads.each t h compound);
      };
      closed = λ a b s r xs ys h k e p q.
          ∥∥₁_elim x (row_set (Row.over s (map (class ls) xs)) (Row.over r (map (class ls) ys))) (λ y. y.closed a b s r xs ys h k e p q);
    }
