-- Lists that grow. Assumes nothing.
use Rattle.std.proofs.Common.{◌≡◌, ℕ, ◌<◌, ◌⊎◌, List, [], ◌∷◌, ◌++◌, length, get_or, sym, subst, inl, inr, arith}
use Rattle.std.proofs.lemmas.List.{get_or_append_left, get_or_push, length_push}

-- what each element has at its place, and one more at the end, each has with that one
pub each_push : {X : Type 0} (P : ℕ → X → Type 0) (xs : List X) (x d : X) → ((k : ℕ) → k < length xs → P k (get_or xs k d)) → P (length xs) x
    → (k : ℕ) → k < length (xs ++ (x ∷ [])) → P k (get_or (xs ++ (x ∷ [])) k d)
each_push {X} P xs x d old new k h =
    let place : (k < length xs) ⊎ (length xs ≡ k) = grind (arith, length_push xs x) in
    elim place [
      | inl less ↦ subst (λ (y : X). P k y) (sym (get_or_append_left xs (x ∷ []) d k less)) (old k less)
      | inr last ↦ subst (λ (y : X). P k y) (sym (get_or_push xs x d k last)) (subst (λ (j : ℕ). P j x) last new)
    ]
