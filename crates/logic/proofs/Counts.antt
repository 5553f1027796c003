-- Counts by a fold of sums that wrap. Assumes nothing.
use Rattle.std.proofs.Common.{◌≡◌, ℕ, ◌+◌, ◌%◌, ◌<◌, Bool, cond, List, [], ◌∷◌, ◌++◌, length, Option, refl, sym, ap, ◌∙◌, arith}
use Rattle.std.proofs.Math.Nat.{mod-eq_of_lt, mod-mod, mod-add-mod}
use Rattle.std.specs.Fn.{Called}
use Rattle.std.specs.Iterator.{AlwaysYields, Drains}
use Rattle.std.specs.List.{FoldsTo, count_by}
use Rattle.std.proofs.lemmas.Fn.{fold_over}
use Rattle.std.proofs.lemmas.List.Sums.{sum_by_push, count_by-le-length}
use denote.Param.Members.{Mut}

-- where each call adds one for an item that passes, wrapping at m, and there are fewer than m items, the fold counts those that pass
module _ {S A B F : Type 0} (steps : S → Option A → S → Type 0) (v : A → B) (g : Mut F (ℕ × (A × Unit {0})) ℕ) (test : B → Bool) (m : ℕ) (f : F)
    (step : (a : ℕ) (x : A) (b : ℕ) (f' : F) → Called g f (a, (x, tt)) b f' → (b ≡ (a + cond (test (v x)) 1 0) % m) × (f' ≡ f)) where
  more : (ys : List B) (y : B) (a b : ℕ) → a % m ≡ count_by test ys % m → b ≡ (a + cond (test y) 1 0) % m → b % m ≡ count_by test (ys ++ (y ∷ [])) % m
  more ys y a b given next =
      let one = cond (test y) 1 0 in
      ap (λ n. n % m) next ∙ mod-mod (a + one) m ∙ sym (mod-add-mod a m one) ∙ ap (λ n. (n + one) % m) given ∙ mod-add-mod (count_by test ys) m one
      ∙ ap (λ n. n % m) (sym (sum_by_push (λ z. cond (test z) 1 0) ys y))

  pub counted : (s : S) (all : List B) (r : ℕ) → AlwaysYields steps v s all → length all < m → r < m
      → (xs : List A) × (f' : F) × Drains steps s xs × FoldsTo {P = F × ℕ} (λ p x q. Called g p.0 (p.1, (x, tt)) q.1 q.0) (f, 0) xs (f', r) → r ≡ count_by test all
  counted s all r from few small ran =
      let same : r % m ≡ count_by test all % m
      = fold_over steps v g (λ ys a. a % m ≡ count_by test ys % m) f
      (λ ys a x b f' given called. let u = step a x b f' called in (more ys (v x) a b given u.0, u.1)) s all 0 r from refl ran in
      sym (mod-eq_of_lt small) ∙ same ∙ mod-eq_of_lt (omega (arith, count_by-le-length test all))
