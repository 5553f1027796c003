-- The told world that a settled table gives. Assumes nothing.
use Rattle.std.specs.Prelude.{◌≡◌, ℕ, zero, suc, ◌*◌, ◌<◌, Bool, cond, not, ◌&&◌, List, length, nat_lt, slice_index, slice_index_or, refl}
use Rattle.std.proofs.Common.{sym, ◌∙◌, inl, inr, arith}
use Rattle.std.proofs.Math.Logic.{∥∥₁_elim}
use Rattle.std.proofs.lemmas.Bool.{cases_lt, lt-ltb, le-ltb, cond-true, cond-false, cond_both}
use Rattle.logic.specs.Trees.{Tree, World, Ground, base, tower}
use Rattle.logic.specs.declared.Equation.{Equation}
use Rattle.groups.specs.Tables.{leads, tally}
use Rattle.terms.specs.Sheets.{Row, row, Sheet}
use Rattle.terms.specs.Values.{grown}
use Rattle.terms.specs.Trees.{Formed}
use Rattle.terms.proofs.Formed.{ground_prop, formed_ground, tower_formed, over_formed}
use Rattle.classes.specs.Classes.{class, Settled}

module _ (rs : List Row) (ls hs : List ℕ) where
  -- Whether the class of the term has only names.
  abbrev pub unbound : ℕ → Bool
  unbound a = not (nat_lt (slice_index hs (class ls a)) (length rs))

  -- The row of the lowest compound term of a term's class; a name where there is none.
  abbrev pub head_row : ℕ → Row
  head_row a = cond (nat_lt (slice_index hs (class ls a)) (length rs)) (row rs (slice_index hs (class ls a))) Row.name

  -- The number of a term's class among the classes that have only names, counted from 1 by lowest member.
  abbrev pub free_group : ℕ → ℕ
  free_group a = suc (tally (λ m. leads ls m && unbound m) (class ls a))

  -- The tree of a term's class, down to the depth d: that of its lowest compound term, or else the tower of its group.
  abbrev pub told_tree : ℕ → ℕ → Tree
  told_tree zero a = base
  told_tree (suc d) a = grown (told_tree d) (tower (free_group a * length rs)) (head_row a)

  -- Where the row of a class's head is a compound term's, the head is a term of the sheet.
  pub head_written : (a s : ℕ) (xs : List ℕ) → head_row a ≡ Row.over s xs
      → (slice_index hs (class ls a) < length rs) × (row rs (slice_index hs (class ls a)) ≡ Row.over s xs)
  head_written a s xs e =
      let head = slice_index_or hs (class ls a) 0 in
      elim (cases_lt head (length rs)) [
        | inl h ↦ (h, sym (cond-true (nat_lt head (length rs)) (row rs head) Row.name (lt-ltb head (length rs) h)) ∙ e)
        | inr h ↦
            let none : head_row a ≡ Row.name = cond-false (nat_lt head (length rs)) (row rs head) Row.name (le-ltb head (length rs) h) in
            let z : ◌≡◌ {A = ℕ} 0 1 = cc in
            absurd (omega arith)
      ]

  module _ (ar : List ℕ) (sheet : Sheet ar rs) where
    -- On a sheet these trees are over its symbols.
    pub told_formed : (d a : ℕ) → Formed ar (told_tree d a)
    told_formed zero a = tower_formed ar sheet.symbols 0
    told_formed (suc d) a = by_row (λ x. told_formed d x) (head_row a) refl
      where
        by_row : ((x : ℕ) → Formed ar (told_tree d x)) → (r : Row) → head_row a ≡ r
            → Formed ar (grown (told_tree d) (tower (free_group a * length rs)) r)
        by_row before Row.name e = tower_formed ar sheet.symbols (free_group a * length rs)
        by_row before (Row.over s xs) e =
            let head = slice_index_or hs (class ls a) 0 in
            let written = head_written a s xs e in
            over_formed ar (told_tree d) head s xs (sheet.rows head s xs written.0 written.1) (λ x l. before x)

  -- The tree that the told world has for a number: that of the term's class, and base for a number that is no term.
  abbrev pub told_at : ℕ → Tree
  told_at n = cond (nat_lt n (length rs)) (told_tree (length rs) n) base

  -- And so they are ground.
  pub told_ground : (ar : List ℕ) → ∥ Sheet ar rs ∥₁ → (n : ℕ) → Ground (told_at n)
  told_ground ar sheets n =
      ∥∥₁_elim sheets (ground_prop (told_at n))
      (λ sheet. formed_ground ar sheet.symbols (told_at n)
      (cond_both (nat_lt n (length rs)) (told_tree (length rs) n) base (Formed ar)
      (λ e. told_formed ar sheet (length rs) n) (λ e. tower_formed ar sheet.symbols 0)))

-- The told world of a settled table.
abbrev pub told_world : (ar : List ℕ) (rs : List Row) (es : List Equation) (ls hs : List ℕ) → ∥ Sheet ar rs ∥₁ → ∥ Settled rs es ls hs ∥₁ → World
told_world ar rs es ls hs sheet settled = record { tree = told_at rs ls hs; grounded = told_ground rs ls hs ar sheet }
