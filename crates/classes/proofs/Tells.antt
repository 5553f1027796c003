-- What is told of a name is one thing, it is what a settled table says, and it is what the told world has there.
-- Assumes nothing.
use Rattle.std.proofs.Common.{◌≡◌, ℕ, zero, suc, ◌*◌, ◌<◌, ◌≤◌, ltb, List, length, get_or, sym, refl, ap, ◌∙◌, inl, inr, arith}
use Rattle.std.proofs.lemmas.Bool.{cases_order, le-ltb, cond-false}
use Rattle.logic.specs.Trees.{tower}
use Rattle.logic.specs.Tellings.{Told, Names}
use Rattle.logic.specs.Tellings.Told.{told, refused}
use Rattle.logic.specs.declared.Equation.{Equation}
use Rattle.logic.proofs.Towers.{tree_set}
use Rattle.groups.specs.Groups.{GroupNumber}
use Rattle.groups.proofs.Numbers.{group_single}
use Rattle.terms.specs.Sheets.{Row, row, Sheet}
use Rattle.terms.specs.Trees.{ForcedEqual, Bound, Free, TreeTold, tree_telling}
use Rattle.terms.proofs.Forced.{equal_turned, equal_joined}
use Rattle.terms.proofs.Values.{value_name}
use Rattle.classes.specs.Classes.{class, Settled}
use Rattle.classes.specs.Worlds.{head_row, free_group, told_tree, told_world}
use Rattle.classes.proofs.Free.{tree_tower}
use Rattle.classes.proofs.Decides.{from_both, told_term, told_freest}
use Rattle.classes.proofs.Numbers.{head_bound, head_lowest, free_headless, headless_free, free_numbered}

module _ (ar : List ℕ) (rs : List Row) (es : List Equation) where
  number_single : (n i j : ℕ) → GroupNumber (Free ar rs es) (ForcedEqual ar rs es) n i → GroupNumber (Free ar rs es) (ForcedEqual ar rs es) n j → i ≡ j
  number_single = group_single (Free ar rs es) (ForcedEqual ar rs es) (equal_turned ar rs es) (equal_joined ar rs es)

  bound_single : (n t u : ℕ) → Bound ar rs es n t → Bound ar rs es n u → ((k : ℕ) → k < t → Bound ar rs es n k → ⊥)
      → ((k : ℕ) → k < u → Bound ar rs es n k → ⊥) → t ≡ u
  bound_single n t u x y first second =
      elim (cases_order t u) [
        | inl same ↦ same
        | inr (inl less) ↦ absurd (second t less x)
        | inr (inr more) ↦ absurd (first u more y)
      ]

  -- one thing is told of a number
  pub told_single : (n : ℕ) (a b : Told) → TreeTold ar rs es n a → TreeTold ar rs es n b → a ≡ b
  told_single n (told zero h) (told zero k) x y =
      ap (told 0) (x.1.2 ∙ ap (λ (i : ℕ). i * length rs) (number_single n x.1.0 y.1.0 x.1.1 y.1.1) ∙ sym y.1.2)
  told_single n (told zero h) (told (suc zero) t) x y = absurd (x.0.unbound t y.1)
  told_single n (told zero h) (told (suc (suc kind)) t) x y = absurd y
  told_single n (told zero h) (refused r) x y = absurd (y.0 x.0.name)
  told_single n (told (suc zero) t) (told zero h) x y = absurd (y.0.unbound t x.1)
  told_single n (told (suc zero) t) (told (suc zero) u) x y = ap (told 1) (bound_single n t u x.1 y.1 x.2 y.2)
  told_single n (told (suc zero) t) (told (suc (suc kind)) u) x y = absurd y
  told_single n (told (suc zero) t) (refused r) x y = absurd (y.0 x.0)
  told_single n (told (suc (suc kind)) t) b x y = absurd x
  told_single n (refused r) (told zero h) x y = absurd (x.0 y.0.name)
  told_single n (refused r) (told (suc zero) t) x y = absurd (x.0 y.0)
  told_single n (refused r) (told (suc (suc kind)) t) x y = absurd y
  told_single n (refused r) (refused q) x y = ap refused (x.1 ∙ sym y.1)

module _ (ar : List ℕ) (rs : List Row) (es : List Equation) (ls hs : List ℕ) (sheets : ∥ Sheet ar rs ∥₁) (settleds : ∥ Settled rs es ls hs ∥₁) where
  -- a name of a class with no head is told the tower of its group
  pub tell_free : (n : ℕ) → n < length rs → row rs n ≡ Row.name → length rs ≤ get_or hs (class ls n) 0
      → TreeTold ar rs es n (told 0 (free_group rs ls hs n * length rs))
  tell_free n h e k =
      let free = headless_free ar rs es ls hs sheets settleds n h k in
      (free, (free_group rs ls hs n, free_numbered ar rs es ls hs sheets settleds n free, refl))

  -- and a name of any other class is told the head
  pub tell_bound : (n : ℕ) → n < length rs → row rs n ≡ Row.name → get_or hs (class ls n) 0 < length rs
      → TreeTold ar rs es n (told 1 (get_or hs (class ls n) 0))
  tell_bound n h e k = (
    (h, e),
    head_bound ar rs es ls hs sheets settleds n h k,
    λ t less bound. omega (arith, head_lowest ar rs es ls hs sheets settleds n t h bound),
  )

  -- the told world has a free name's tower
  free_tower : (n : ℕ) → Free ar rs es n → (told_world ar rs es ls hs sheets settleds).tree n ≡ tower (free_group rs ls hs n * length rs)
  free_tower n free =
      let h = free.name.0 in
      let head = get_or hs (class ls n) 0 in
      let none : head_row rs ls hs n ≡ Row.name =
      cond-false (ltb head (length rs)) (row rs head) Row.name
      (le-ltb head (length rs) (free_headless ar rs es ls hs sheets settleds n free)) in
      told_term rs ls hs n h
      ∙ from_both ar rs es ls hs sheets settleds (tree_set (told_tree rs ls hs (length rs) n) (tower (free_group rs ls hs n * length rs)))
      (λ sheet settled. tree_tower ar rs es ls hs sheet settled n h none)

  -- what is told of a number names the tree that the told world has for it
  pub told_named : (n : ℕ) (a : Told) → TreeTold ar rs es n a
      → Names (tree_telling ar rs) (told_world ar rs es ls hs sheets settleds) a ((told_world ar rs es ls hs sheets settleds).tree n)
  told_named n (told zero h) x =
      free_tower n x.0
      ∙ ap (λ (i : ℕ). tower (i * length rs))
      (number_single ar rs es n (free_group rs ls hs n) x.1.0 (free_numbered ar rs es ls hs sheets settleds n x.0) x.1.1)
      ∙ ap tower (sym x.1.2)
  told_named n (told (suc zero) t) x =
      let world = told_world ar rs es ls hs sheets settleds in
      let freest = told_freest ar rs es ls hs sheets settleds in
      sym (x.1.equal.1 world freest.own freest.all ∙ value_name rs world n x.0.1)
  told_named n (told (suc (suc kind)) t) x = absurd x
  told_named n (refused r) x = tt
