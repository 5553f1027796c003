-- What a theory has of a rule, literal by literal. Assumes nothing.
use Rattle.std.proofs.Common.{◌≡◌, ℕ, zero, suc, ◌<◌, Bool, true, false, List, [], ◌∷◌, length, get_or, refl, arith}
use Rattle.std.specs.Bool.{Decides, MatchBool}
use Rattle.std.specs.List.{AllWithin, HoldsAt}
use Rattle.std.proofs.lemmas.Bool.{both_ways, false≢true}
use Rattle.logic.specs.Theories.{Theory}
use Rattle.rules.specs.declared.Literal.{Literal}
use Rattle.rules.specs.declared.Literal.TheVariants as V
use Rattle.rules.specs.Rules.{equation_of, Had}

module _ (t : Theory) where
  -- a rule is had when its first literal's equation is, and the rest of it is
  had_first : (x : Literal) (ls : List Literal) → Had t (x ∷ ls) → (t.has (equation_of x) ≡ true) × Had t ls
  had_first (V.Equal e) ls h = (h.0.0, (h.0.1, h.1))
  had_first (V.Denied e) ls h = (h.1.0, (h.0, h.1.1))

  had_both : (x : Literal) (ls : List Literal) → t.has (equation_of x) ≡ true → Had t ls → Had t (x ∷ ls)
  had_both (V.Equal e) ls f h = ((f, h.0), h.1)
  had_both (V.Denied e) ls f h = (h.0, (f, h.1))

  had_each : (ls : List Literal) → ((k : ℕ) (d : Literal) → k < length ls → t.has (equation_of (get_or ls k d)) ≡ true) → Had t ls
  had_each [] each = (tt, tt)
  had_each (x ∷ ls) each = had_both x ls (each 0 x (omega arith)) (had_each ls (λ k d h. each (suc k) d (omega arith)))

  had_at : (ls : List Literal) (k : ℕ) (d : Literal) → Had t ls → k < length ls → t.has (equation_of (get_or ls k d)) ≡ true
  had_at [] k d had h = absurd (omega arith)
  had_at (x ∷ ls) zero d had h = (had_first x ls had).0
  had_at (x ∷ ls) (suc k) d had h = had_at ls k d (had_first x ls had).1 (omega arith)

  -- the test of each literal decides it
  pub had_decides : (ls : List Literal) (b : Bool)
      → MatchBool b (AllWithin (λ x. t.has (equation_of x) ≡ true) ls 0 (length ls)) ((k : ℕ) × (k < length ls) × HoldsAt (λ x. t.has (equation_of x) ≡ false) ls k)
      → Decides b (Had t ls)
  had_decides ls true all = (λ _. had_each ls (λ k d h. all k d (omega arith) h), λ _. refl)
  had_decides ls false some =
      let none : Literal = V.Equal (record { left = 0; right = 0 }) in
      (λ e. absurd (false≢true e), λ had. absurd (both_ways _ (some.2 none) (had_at ls some.0 none had some.1)))
