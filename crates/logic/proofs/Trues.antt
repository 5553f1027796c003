-- Lists of equations that a world makes true, place by place and as they grow. Assumes nothing.
use Rattle.std.proofs.Common.{ℕ, zero, suc, ◌<◌, List, [], ◌∷◌, ◌++◌, length, get_or, arith}
use Rattle.logic.specs.Trees.{World}
use Rattle.logic.specs.Theories.{Theory, AllTrue}
use Rattle.logic.specs.declared.Equation.{Equation}

module _ (t : Theory) (w : World) where
  -- all are true exactly when each is
  pub all_at : (es : List Equation) (k : ℕ) (d : Equation) → AllTrue t w es → k < length es → t.holds w (get_or es k d)
  all_at [] k d all h = absurd (omega arith)
  all_at (e ∷ es) zero d all h = all.0
  all_at (e ∷ es) (suc k) d all h = all_at es k d all.1 (omega arith)

  pub all_each : (es : List Equation) (d : Equation) → ((k : ℕ) → k < length es → t.holds w (get_or es k d)) → AllTrue t w es
  all_each [] d each = tt
  all_each (e ∷ es) d each = (each 0 (omega arith), all_each es d (λ k h. each (suc k) (omega arith)))

  -- with one more equation at the end
  pub all_older : (es : List Equation) (e : Equation) → AllTrue t w (es ++ (e ∷ [])) → AllTrue t w es
  all_older [] e all = tt
  all_older (x ∷ es) e all = (all.0, all_older es e all.1)

  pub all_newest : (es : List Equation) (e : Equation) → AllTrue t w (es ++ (e ∷ [])) → t.holds w e
  all_newest [] e all = all.0
  all_newest (x ∷ es) e all = all_newest es e all.1

  pub all_push : (es : List Equation) (e : Equation) → AllTrue t w es → t.holds w e → AllTrue t w (es ++ (e ∷ []))
  all_push [] e all h = (h, tt)
  all_push (x ∷ es) e all h = (all.0, all_push es e all.1 h)
