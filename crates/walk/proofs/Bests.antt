-- The steps of the loop that picks a rule. Assumes nothing.
use Rattle.std.proofs.Common.{◌≡◌, ℕ, ◌+◌, ◌<◌, ◌≤◌, List, [], length, get_or, Some, None, Option, sym, ap, ◌∙◌, subst, arith, below_more}
use Rattle.std.specs.Option.{IfSome, MatchOption}
use Rattle.std.proofs.lemmas.List.{get_or-map}
use Rattle.logic.specs.Theories.{Theory}
use Rattle.logic.specs.declared.Equation.{Equation}
use Rattle.rules.specs.declared.Literal.{Literal}
use Rattle.rules.specs.Rules.{width}
use Rattle.rules.specs.Openness.{Open, Settled}
use Rattle.rules.proofs.Basics.{settled_shut}
use Rattle.walk.specs.declared.rule.Rule.{Rule}
use Rattle.walk.specs.Written.{literals_of, written}
use Rattle.walk.specs.Picks.{Best, BestOf, Within}

-- rule i as it is kept
pub read : (rs : List Rule) (i : ℕ) (x : Rule) → i < length rs → get_or (written rs) i [] ≡ literals_of (get_or rs i x)
read rs i x h = get_or-map literals_of rs i x [] h

module _ (t : Theory) (S : List Equation) (R : List (List Literal)) (i : ℕ) (r : List Literal) (same : get_or R i [] ≡ r) where
  opens : Open t S r → Open t S (get_or R i [])
  opens o = let P : List Literal → Type 0 = λ x. Open t S x in subst P (sym same) o

  settles : Settled t S r → Settled t S (get_or R i [])
  settles o = let P : List Literal → Type 0 = λ x. Settled t S x in subst P (sym same) o

  wide_at : (w : ℕ) → w ≡ width r → w ≡ width (get_or R i [])
  wide_at w q = q ∙ ap width (sym same)

  -- rule i is settled
  pub skip : (b : Option (ℕ × ℕ)) → Settled t S r → BestOf t S R i b → BestOf t S R (i + 1) b
  skip None s none = below_more (λ j. Settled t S (get_or R j [])) i none (settles s)
  skip (Some b) s best =
      record {
        within = omega (arith, best.within);
        opens = best.opens;
        wide = best.wide;
        fewest = below_more (λ j. Open t S (get_or R j []) → b.1 ≤ width (get_or R j [])) i best.fewest (λ o. absurd (settled_shut t S (get_or R i []) (settles s) o));
        earliest = best.earliest;
      }

  -- it is open, with fewer equations than the best, if there is one
  pub better : (b : Option (ℕ × ℕ)) (w : ℕ) → Open t S r → w ≡ width r → IfSome b (λ p. w < p.1) → BestOf t S R i b → Best t S R (i + 1) i w
  better None w o e less none =
      record {
        within = omega arith;
        opens = opens o;
        wide = wide_at w e;
        fewest = below_more (λ j. Open t S (get_or R j []) → w ≤ width (get_or R j [])) i (λ j h p. absurd (settled_shut t S (get_or R j []) (none j h) p)) (λ p. omega (arith, wide_at w e));
        earliest = λ j h p. absurd (settled_shut t S (get_or R j []) (none j h) p);
      }
  better (Some b) w o e less best =
      record {
        within = omega arith;
        opens = opens o;
        wide = wide_at w e;
        fewest = below_more (λ j. Open t S (get_or R j []) → w ≤ width (get_or R j [])) i (λ j h p. let q = best.fewest j h p in omega arith) (λ p. omega (arith, wide_at w e));
        earliest = λ j h p. let q = best.fewest j h p in omega arith;
      }

  -- it is open, with as many as the best or more
  pub worse : (b : Option (ℕ × ℕ)) (w : ℕ) → w ≡ width r → MatchOption b ⊥ (λ p. p.1 ≤ w) → BestOf t S R i b → BestOf t S R (i + 1) b
  worse None w e more none = absurd more
  worse (Some b) w e more best =
      record {
        within = omega (arith, best.within);
        opens = best.opens;
        wide = best.wide;
        fewest = below_more (λ j. Open t S (get_or R j []) → b.1 ≤ width (get_or R j [])) i best.fewest (λ p. omega (arith, wide_at w e));
        earliest = best.earliest;
      }

pub within_more : (i : ℕ) (b : Option (ℕ × ℕ)) → Within i b → Within (i + 1) b
within_more i None h = tt
within_more i (Some b) h = omega arith
