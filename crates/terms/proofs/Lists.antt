-- Lists of terms that functions map, and the trees of a forest. Assumes nothing.
use Rattle.std.proofs.Common.{◌≡◌, ℕ, suc, ◌<◌, List, [], ◌∷◌, map, length, get_or, refl, ap₂, arith}
use Rattle.logic.specs.Trees.{Tree}
use Rattle.terms.specs.Values.{forest}

-- functions that agree at each place of a list map it to one list
pub map_same : {X : Type 0} (f g : ℕ → X) (xs : List ℕ) → ((i : ℕ) → i < length xs → f (get_or xs i 0) ≡ g (get_or xs i 0)) → map f xs ≡ map g xs
map_same f g [] each = refl
map_same f g (x ∷ xs) each = ap₂ ◌∷◌ (each 0 (omega arith)) (map_same f g xs (λ i h. each (suc i) (omega arith)))

-- lists that f maps to one list, g maps to one list, where g agrees at each place at which f does
pub map_through : {X Y : Type 0} (f : ℕ → X) (g : ℕ → Y) (xs ys : List ℕ)
    → ((i : ℕ) → i < length xs → i < length ys → f (get_or xs i 0) ≡ f (get_or ys i 0) → g (get_or xs i 0) ≡ g (get_or ys i 0))
    → map f xs ≡ map f ys → map g xs ≡ map g ys
map_through f g [] [] each same = refl
map_through f g [] (y ∷ ys) each same = let z : ◌≡◌ {A = ℕ} 0 1 = cc in absurd (omega arith)
map_through f g (x ∷ xs) [] each same = let z : ◌≡◌ {A = ℕ} 0 1 = cc in absurd (omega arith)
map_through f g (x ∷ xs) (y ∷ ys) each same =
    let first : f x ≡ f y = cc in
    let rest : map f xs ≡ map f ys = cc in
    ap₂ ◌∷◌ (each 0 (omega arith) (omega arith) first) (map_through f g xs ys (λ i h k. each (suc i) (omega arith) (omega arith)) rest)

-- a forest is of one list of trees
pub forest_same : (ts us : List Tree) → forest ts ≡ forest us → ts ≡ us
forest_same [] [] same = refl
forest_same [] (u ∷ us) same = let z : ◌≡◌ {A = ℕ} 0 1 = cc in absurd (omega arith)
forest_same (t ∷ ts) [] same = let z : ◌≡◌ {A = ℕ} 0 1 = cc in absurd (omega arith)
forest_same (t ∷ ts) (u ∷ us) same =
    let first : t ≡ u = cc in
    let rest : forest ts ≡ forest us = cc in
    ap₂ ◌∷◌ first (forest_same ts us rest)
