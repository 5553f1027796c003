-- Rows and the lists of their arguments. Assumes nothing.
use Rattle.std.proofs.Common.{◌≡◌, ℕ, zero, suc, ◌<◌, Bool, true, false, ◌&&◌, eqb, List, [], ◌∷◌, map, length, get_or, sym, refl, ap, ◌∙◌, ap₂, arith}
use Rattle.std.proofs.lemmas.Bool.{eq-eqb, eqb-true}
use Rattle.logic.specs.Trees.{Tree}
use Rattle.terms.specs.Sheets.{Row, arguments, Compound}
use Rattle.terms.specs.Values.{forest}
use Rattle.unify.specs.Merging.{alike}

pub never : {A : Type 0} → false ≡ true → A
never e = let z : ◌≡◌ {A = ℕ} 0 1 = cc in absurd (omega arith)

-- two forests are one where the trees are, place by place
places : (v : ℕ → Tree) (x y : ℕ) (xs ys : List ℕ) → v x ≡ v y → ((i : ℕ) → i < length xs → v (get_or xs i 0) ≡ v (get_or ys i 0))
    → (i : ℕ) → i < suc (length xs) → v (get_or (x ∷ xs) i 0) ≡ v (get_or (y ∷ ys) i 0)
places v x y xs ys here more zero l = here
places v x y xs ys here more (suc i) l = more i (omega arith)

pub forest_places : (v : ℕ → Tree) (xs ys : List ℕ) → forest (map v xs) ≡ forest (map v ys) →
    (length xs ≡ length ys) × ((i : ℕ) → i < length xs → v (get_or xs i 0) ≡ v (get_or ys i 0))
forest_places v [] [] e = (refl, λ i l. absurd (omega arith))
forest_places v [] (y ∷ ys) e = let z : ◌≡◌ {A = ℕ} 0 1 = cc in absurd (omega arith)
forest_places v (x ∷ xs) [] e = let z : ◌≡◌ {A = ℕ} 0 1 = cc in absurd (omega arith)
forest_places v (x ∷ xs) (y ∷ ys) e =
    let here : v x ≡ v y = cc in
    let rest : forest (map v xs) ≡ forest (map v ys) = cc in
    let more = forest_places v xs ys rest in
    (ap suc more.0, places v x y xs ys here more.1)

pub map_places : {X : Type 0} (f : ℕ → X) (xs ys : List ℕ) → length xs ≡ length ys → ((i : ℕ) → i < length xs → f (get_or xs i 0) ≡ f (get_or ys i 0)) →
    map f xs ≡ map f ys
map_places f [] [] l h = refl
map_places f [] (y ∷ ys) l h = absurd (omega arith)
map_places f (x ∷ xs) [] l h = absurd (omega arith)
map_places f (x ∷ xs) (y ∷ ys) l h = ap₂ ◌∷◌ (h 0 (omega arith)) (map_places f xs ys (omega arith) (λ i k. h (suc i) (omega arith)))

-- a compound row is its symbol over its arguments
pub over_of : (p : Row) → Compound p → (s : ℕ) × (p ≡ Row.over s (arguments p))
over_of Row.name h = absurd h
over_of (Row.over s xs) h = (s, refl)

both_true : (b c : Bool) → (b && c) ≡ true → (b ≡ true) × (c ≡ true)
both_true true true e = (refl, refl)
both_true true false e = never e
both_true false c e = never e

both_made : (b c : Bool) → b ≡ true → c ≡ true → (b && c) ≡ true
both_made b c e f = cc

-- rows that are alike have one symbol over as many arguments, and others have not
pub alike_yes : (p q : Row) (s r : ℕ) (xs ys : List ℕ) → p ≡ Row.over s xs → q ≡ Row.over r ys → alike p q ≡ true → (s ≡ r) × (length xs ≡ length ys)
alike_yes p q s r xs ys e f h =
    let g : alike (Row.over s xs) (Row.over r ys) ≡ true = sym (ap₂ alike e f) ∙ h in
    let k = both_true (eqb s r) (eqb (length xs) (length ys)) g in
    (eqb-true _ _ k.0, eqb-true _ _ k.1)

pub alike_no : (p q : Row) (s r : ℕ) (xs ys : List ℕ) → p ≡ Row.over s xs → q ≡ Row.over r ys → alike p q ≡ false → s ≡ r → length xs ≡ length ys → ⊥
alike_no p q s r xs ys e f h i j =
    let g : alike (Row.over s xs) (Row.over r ys) ≡ false = sym (ap₂ alike e f) ∙ h in
    never (sym g ∙ both_made (eqb s r) (eqb (length xs) (length ys)) (eq-eqb _ _ i) (eq-eqb _ _ j))

pub alike_length : (p q : Row) → alike p q ≡ true → length (arguments q) ≡ length (arguments p)
alike_length Row.name q h = never h
alike_length (Row.over s xs) Row.name h = never h
alike_length (Row.over s xs) (Row.over r ys) h = sym (alike_yes _ _ s r xs ys refl refl h).1
