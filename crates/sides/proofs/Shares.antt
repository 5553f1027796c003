-- The share of a side in a list that grows or is cut, and how long it is. Assumes nothing.
use Rattle.std.proofs.Common.{◌≡◌, ℕ, zero, suc, ◌≤◌, Bool, true, false, cond, List, [], ◌∷◌, ◌++◌, length, take, Some, None, Option, sym, refl, ap, ◌∙◌, arith}
use Rattle.std.specs.List.{filter}
use Rattle.logic.specs.declared.Equation.{Equation}
use Rattle.sides.specs.declared.Side.{Side}
use Rattle.sides.specs.declared.Side.TheVariants.{First, Second}
use Rattle.sides.specs.Sides.{part_of, same_side, belongs, only, keep, share}

-- one equation more at the end
only_append : (s k : Side) (d : Equation) (es fs : List Equation) → only s k d (es ++ fs) ≡ only s k d es ++ fs
only_append First First d es fs = refl
only_append First Second d es fs = refl
only_append Second First d es fs = refl
only_append Second Second d es fs = refl

keep_append : (s : Side) (o : Option (Side × Equation)) (es fs : List Equation) → keep s o (es ++ fs) ≡ keep s o es ++ fs
keep_append s None es fs = refl
keep_append s (Some p) es fs = only_append s p.0 p.1 es fs

pub share_newest : (s : Side) (es : List Equation) (e : Equation) → share s (es ++ (e ∷ [])) ≡ share s es ++ keep s (part_of e) []
share_newest s [] e = refl
share_newest s (x ∷ es) e = ap (keep s (part_of x)) (share_newest s es e) ∙ keep_append s (part_of x) (share s es) (keep s (part_of e) [])

-- how long a share is
only_length : (s k : Side) (d : Equation) (es : List Equation) → length (only s k d es) ≡ cond (same_side s k) (suc (length es)) (length es)
only_length First First d es = refl
only_length First Second d es = refl
only_length Second First d es = refl
only_length Second Second d es = refl

keep_length : (s : Side) (o : Option (Side × Equation)) (es : List Equation) → length (keep s o es) ≡ cond (belongs s o) (suc (length es)) (length es)
keep_length s None es = refl
keep_length s (Some p) es = only_length s p.0 p.1 es

only_short : (s k : Side) (d : Equation) (es : List Equation) → length (only s k d es) ≤ suc (length es)
only_short First First d es = omega arith
only_short First Second d es = omega arith
only_short Second First d es = omega arith
only_short Second Second d es = omega arith

keep_short : (s : Side) (o : Option (Side × Equation)) (es : List Equation) → length (keep s o es) ≤ suc (length es)
keep_short s None es = omega arith
keep_short s (Some p) es = only_short s p.0 p.1 es

pub share_short : (s : Side) (es : List Equation) → length (share s es) ≤ length es
share_short s [] = omega arith
share_short s (x ∷ es) = omega (arith, share_short s es, keep_short s (part_of x) (share s es))

-- the share of a front is a front of the share
only_take : (s k : Side) (d : Equation) (fs es : List Equation) → fs ≡ take (length fs) es → only s k d fs ≡ take (length (only s k d fs)) (only s k d es)
only_take First First d fs es h = ap (λ l. d ∷ l) h
only_take First Second d fs es h = h
only_take Second First d fs es h = h
only_take Second Second d fs es h = ap (λ l. d ∷ l) h

keep_take : (s : Side) (o : Option (Side × Equation)) (fs es : List Equation) → fs ≡ take (length fs) es → keep s o fs ≡ take (length (keep s o fs)) (keep s o es)
keep_take s None fs es h = h
keep_take s (Some p) fs es h = only_take s p.0 p.1 fs es h

pub share_take : (s : Side) (n : ℕ) (es : List Equation) → share s (take n es) ≡ take (length (share s (take n es))) (share s es)
share_take s zero es = refl
share_take s (suc n) [] = refl
share_take s (suc n) (x ∷ es) = keep_take s (part_of x) (share s (take n es)) (share s es) (share_take s n es)

-- a share is as long as the list of the equations that belong to its side
filter_length : (test : Equation → Bool) (x : Equation) (es : List Equation)
    → length (filter test (x ∷ es)) ≡ cond (test x) (suc (length (filter test es))) (length (filter test es))
filter_length test x es = chosen (test x)
  where
    chosen : (b : Bool) → length (cond b (x ∷ filter test es) (filter test es)) ≡ cond b (suc (length (filter test es))) (length (filter test es))
    chosen true = refl
    chosen false = refl

pub share_filtered : (s : Side) (es : List Equation) → length (filter (λ e. belongs s (part_of e)) es) ≡ length (share s es)
share_filtered s [] = refl
share_filtered s (x ∷ es) =
    filter_length (λ e. belongs s (part_of e)) x es ∙ ap (λ n. cond (belongs s (part_of x)) (suc n) n) (share_filtered s es)
    ∙ sym (keep_length s (part_of x) (share s es))
