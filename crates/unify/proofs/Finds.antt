-- A term moved up to its parent's parent: no class changes, and the way up gets shorter. Assumes nothing.
use Rattle.std.proofs.Common.{◌≡◌, ℕ, ◌<◌, ◌≤◌, List, length, get_or, set, sym, ap, ◌∙◌, inl, inr, arith, length-set, get_or-set_other, get_or-set_same}
use Rattle.std.proofs.lemmas.Bool.{eq-eqb, ne_eqb, cases_eq}
use Rattle.groups.specs.Tables.{leads}
use Rattle.unify.specs.Parents.{Parents, Rooted, roots}
use Rattle.unify.proofs.Counts.{tally_same}

module _ (N : ℕ) (ps : List ℕ) (parents : Parents N ps) (a : ℕ) (la : a < N) where
  -- the parent's parent
  abbrev up : ℕ
  up = get_or ps (get_or ps a 0) 0

  here : get_or (set ps a up) a 0 ≡ up
  here = let h : a < length ps = omega (arith, parents.long) in rw get_or-set_same

  there : (x : ℕ) → (x ≡ a → ⊥) → get_or (set ps a up) x 0 ≡ get_or ps x 0
  there x other = rw get_or-set_other

  at : (x : ℕ) → x ≡ a → get_or (set ps a up) x 0 ≡ up
  at x same = ap (λ (y : ℕ). get_or (set ps a up) y 0) same ∙ here

  up_low : up ≤ get_or ps a 0
  up_low = parents.low (get_or ps a 0) (omega (arith, parents.low a la))

  pub up_less : (get_or ps a 0 ≡ a → ⊥) → up < a
  up_less moves = let low = parents.low a la in let more = up_low in grind (arith, moves)

  -- a term that is its own parent stays so, and no other becomes so
  up_own : up ≡ a → get_or ps a 0 ≡ a
  up_own e = omega (arith, up_low, parents.low a la)

  own_up : get_or ps a 0 ≡ a → up ≡ a
  own_up e = ap (λ (x : ℕ). get_or ps x 0) e ∙ e

  pub up_parents : Parents N (set ps a up)
  up_parents = record { long = simp length-set parents.long; low = down }
    where
      down : (x : ℕ) → x < N → get_or (set ps a up) x 0 ≤ x
      down x lx =
          elim (cases_eq x a) [
            | inl same ↦ omega (arith, at x same, up_low, parents.low a la)
            | inr other ↦ omega (arith, there x other, parents.low x lx)
          ]

  pub up_kept : (x : ℕ) → get_or ps x 0 ≡ x → get_or (set ps a up) x 0 ≡ x
  up_kept x e =
      elim (cases_eq x a) [
        | inl same ↦ at x same ∙ own_up (ap (λ (y : ℕ). get_or ps y 0) (sym same) ∙ e ∙ same) ∙ sym same
        | inr other ↦ there x other ∙ e
      ]

  pub up_roots : roots (set ps a up) ≡ roots ps
  unfolding roots
  up_roots =
      let long : length (set ps a up) ≡ length ps = simp length-set in
      rw long (tally_same (leads (set ps a up)) (leads ps) (length ps) same_test)
    where
      same_test : (i : ℕ) → i < length ps → leads (set ps a up) i ≡ leads ps i
      same_test i li =
          elim (cases_eq (get_or ps i 0) i) [
            | inl leads_it ↦ eq-eqb (get_or (set ps a up) i 0) i (up_kept i leads_it) ∙ sym (eq-eqb (get_or ps i 0) i leads_it)
            | inr not_it ↦ ne_eqb (get_or (set ps a up) i 0) i (λ e. elim (cases_eq i a) [
              | inl same ↦ not_it (ap (λ (y : ℕ). get_or ps y 0) same ∙ up_own (sym (at i same) ∙ e ∙ same) ∙ sym same)
              | inr other ↦ not_it (sym (there i other) ∙ e)
            ]) ∙ sym (ne_eqb (get_or ps i 0) i not_it)
          ]

  pub up_rooted : (f : ℕ → ℕ) → Rooted N ps f → Rooted N (set ps a up) f
  up_rooted f rooted = record { up = above; top = top; own = own; low = rooted.low }
    where
      below : get_or ps a 0 < N
      below = omega (arith, parents.low a la)

      above : (x : ℕ) → x < N → f (get_or (set ps a up) x 0) ≡ f x
      above x lx =
          elim (cases_eq x a) [
            | inl same ↦ ap f (at x same) ∙ rooted.up (get_or ps a 0) below ∙ rooted.up a la ∙ ap f (sym same)
            | inr other ↦ ap f (there x other) ∙ rooted.up x lx
          ]

      top : (x : ℕ) → x < N → get_or (set ps a up) x 0 ≡ x → f x ≡ x
      top x lx e =
          elim (cases_eq x a) [
            | inl same ↦ rooted.top x lx (ap (λ (y : ℕ). get_or ps y 0) same ∙ up_own (sym (at x same) ∙ e ∙ same) ∙ sym same)
            | inr other ↦ rooted.top x lx (sym (there x other) ∙ e)
          ]

      own : (x : ℕ) → x < N → get_or (set ps a up) (f x) 0 ≡ f x
      own x lx = up_kept (f x) (rooted.own x lx)

  -- where all lower terms are right under the ones that stand for their classes, this one is so too
  pub up_flat : (f : ℕ → ℕ) → Rooted N ps f → ((x : ℕ) → x < a → get_or ps x 0 ≡ f x) → (x : ℕ) → x ≤ a → get_or (set ps a up) x 0 ≡ f x
  up_flat f rooted flat x l =
      elim (cases_eq x a) [
        | inl same ↦
            at x same ∙ (elim (cases_eq (get_or ps a 0) a) [
              | inl own ↦ own_up own ∙ sym (rooted.top a la own)
              | inr moves ↦ flat (get_or ps a 0) (let low = parents.low a la in grind (arith, moves)) ∙ rooted.up a la
            ]) ∙ ap f (sym same)
        | inr other ↦ there x other ∙ flat x (grind (arith, other))
      ]
