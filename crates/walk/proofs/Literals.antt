-- What a rule's literals say of the rule. Assumes nothing.
use Rattle.std.proofs.Common.{◌≡◌, ℕ, zero, suc, ◌+◌, ◌<◌, Bool, true, false, List, [], ◌∷◌, length, get_or, drop, sym, refl, ap, ◌∙◌, subst, inl, inr, arith}
use Rattle.std.specs.Bool.{MatchBool}
use Rattle.std.specs.List.{filter, AllWithin, HoldsAt}
use Rattle.std.proofs.lemmas.List.{drop_more}
use Rattle.logic.specs.Theories.{Theory}
use Rattle.logic.specs.declared.Equation.{Equation}
use Rattle.rules.specs.declared.Literal.{Literal}
use Rattle.rules.specs.declared.Literal.TheVariants as V
use Rattle.rules.specs.Rules.{equations, width}
use Rattle.rules.specs.Openness.{Open, Settled}
use Rattle.rules.proofs.Basics.{In}
use Rattle.walk.specs.Picks.{Leaves, Settles, Judged}

pub drop_at : (ls : List Literal) (i : ℕ) (d x : Literal) → i < length ls → get_or ls i d ≡ x → drop i ls ≡ x ∷ drop (i + 1) ls
drop_at ls i d x h e = drop_more ls i d h ∙ ap (λ y. y ∷ drop (i + 1) ls) e

-- whether the literal is an equation
abbrev pub asserts : Literal → Bool
asserts (V.Equal e) = true
asserts (V.Denied e) = false

-- the equations are as many as the literals that are one
pub asserted_width : (ls : List Literal) → length (filter asserts ls) ≡ width ls
asserted_width [] = refl
asserted_width (V.Equal e ∷ ls) = ap suc (asserted_width ls)
asserted_width (V.Denied e ∷ ls) = asserted_width ls

module _ (t : Theory) (S : List Equation) where
  -- a rule that each literal leaves open is open
  pub open_all : (ls : List Literal) → ((k : ℕ) (d : Literal) → k < length ls → Leaves t S (get_or ls k d)) → Open t S ls
  open_all [] all = (tt, tt)
  open_all (V.Equal e ∷ ls) all =
      let o = open_all ls (λ k d h. all (suc k) d (omega arith)) in (o.0, (all 0 (V.Equal e) (omega arith), o.1))
  open_all (V.Denied e ∷ ls) all =
      let o = open_all ls (λ k d h. all (suc k) d (omega arith)) in ((all 0 (V.Denied e) (omega arith), o.0), o.1)

  -- one literal that settles a rule is enough
  pub settled_at : (ls : List Literal) (k : ℕ) (d : Literal) → k < length ls → Settles t S (get_or ls k d) → Settled t S ls
  settled_at [] k d h s = absurd (omega arith)
  settled_at (V.Equal e ∷ ls) zero d h s = inl s
  settled_at (V.Denied e ∷ ls) zero d h s = inl s
  settled_at (V.Equal e ∷ ls) (suc k) d h s = inr (settled_at ls k d (omega arith) s)
  settled_at (V.Denied e ∷ ls) (suc k) d h s = inr (settled_at ls k d (omega arith) s)

  -- what all literals together come to
  pub judged : (ls : List Literal) (b : Bool)
      → MatchBool b (AllWithin (Leaves t S) ls 0 (length ls)) ((k : ℕ) × (k < length ls) × HoldsAt (Settles t S) ls k) → Judged t S ls b
  judged ls true all = open_all ls (λ k d h. all k d (omega arith) h)
  judged ls false some = settled_at ls some.0 (V.Equal (record { left = 0; right = 0 })) some.1 (some.2 _)

-- an equation that stands among the literals is one of the rule's
pub in_at : (ls : List Literal) (i : ℕ) (d : Literal) (e : Equation) → i < length ls → get_or ls i d ≡ V.Equal e → In e (equations ls)
in_at [] i d e h p = absurd (omega arith)
in_at (l ∷ ls) zero d e h p = let P : Literal → Type 0 = λ x. In e (equations (x ∷ ls)) in subst P (sym p) (inl refl)
in_at (V.Equal x ∷ ls) (suc i) d e h p = inr (in_at ls i d e (omega arith) p)
in_at (V.Denied x ∷ ls) (suc i) d e h p = in_at ls i d e (omega arith) p
