-- What is forced where more stands, and rules that are settled. Assumes nothing.
use mathlib.Core.Path.{◌≡◌, subst, sym}
use mathlib.Core.Bool.{true}
use mathlib.Core.List.{List, [], ◌∷◌, ◌++◌}
use mathlib.Core.Logic.{◌⊎◌, inl, inr}
use Rattle.logic.specs.Theories.{Theory, Forced}
use Rattle.logic.specs.declared.Equation.{Equation}
use Rattle.logic.proofs.Trues.{all_older, all_newest}
use Rattle.rules.specs.declared.Literal.{Literal}
use Rattle.rules.specs.declared.Literal.TheVariants as V
use Rattle.rules.specs.Rules.{AllHad}
use Rattle.rules.specs.Openness.{NoneForced, Open, Settled}

-- e stands in the list
abbrev pub In : Equation → List Equation → Type 0
In e [] = ⊥
In e (x ∷ xs) = (e ≡ x) ⊎ In e xs

pub forced_more : (t : Theory) (S : List Equation) (x e : Equation) → Forced t S e → Forced t (S ++ (x ∷ [])) e
forced_more t S x e f = (f.0, λ w own all. f.1 w own (all_older t w S x all))

pub forced_last : (t : Theory) (S : List Equation) (e : Equation) → t.has e ≡ true → Forced t (S ++ (e ∷ [])) e
forced_last t S e had = (had, λ w own all. all_newest t w S e all)

pub none_less : (t : Theory) (S : List Equation) (x : Equation) (es : List Equation) → NoneForced t (S ++ (x ∷ [])) es → NoneForced t S es
none_less t S x [] nope = tt
none_less t S x (e ∷ es) nope = (λ f. nope.0 (forced_more t S x e f), none_less t S x es nope.1)

pub none_at : (t : Theory) (S : List Equation) (e : Equation) (es : List Equation) → NoneForced t S es → In e es → Forced t S e → ⊥
none_at t S e [] nope i f = i
none_at t S e (x ∷ es) nope (inl p) f = nope.0 (let P : Equation → Type 0 = λ y. Forced t S y in subst P p f)
none_at t S e (x ∷ es) nope (inr i) f = none_at t S e es nope.1 i f

pub had_at : (t : Theory) (e : Equation) (es : List Equation) → AllHad t es → In e es → t.has e ≡ true
had_at t e [] had i = absurd i
had_at t e (x ∷ es) had (inl p) = let P : Equation → Type 0 = λ y. t.has y ≡ true in subst P (sym p) had.0
had_at t e (x ∷ es) had (inr i) = had_at t e es had.1 i

-- a settled rule is not open
pub settled_shut : (t : Theory) (S : List Equation) (r : List Literal) → Settled t S r → Open t S r → ⊥
settled_shut t S [] s o = s
settled_shut t S (V.Equal e ∷ r) (inl f) o = o.1.0 f
settled_shut t S (V.Equal e ∷ r) (inr s) o = settled_shut t S r s (o.0, o.1.1)
settled_shut t S (V.Denied e ∷ r) (inl f) o = f o.0.0
settled_shut t S (V.Denied e ∷ r) (inr s) o = settled_shut t S r s (o.0.1, o.1)
