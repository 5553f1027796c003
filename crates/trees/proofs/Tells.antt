-- What a settled table and its heads tell of a name is what is told of it. Assumes nothing.
use Rattle.std.proofs.Common.{◌≡◌, ℕ, ◌*◌, ◌<◌, ltb, List, length, get_or, sym, subst, inl, inr}
use Rattle.std.proofs.lemmas.Bool.{cases_lt, lt-ltb, le-ltb, cond-true, cond-false}
use Rattle.logic.specs.Tellings.Told.{told}
use Rattle.logic.specs.declared.Equation.{Equation}
use Rattle.terms.specs.Sheets.{Row, row, Sheet}
use Rattle.terms.specs.Trees.{TreeTold}
use Rattle.classes.specs.Classes.{class, Settled}
use Rattle.classes.specs.Worlds.{free_group}
use Rattle.classes.proofs.Tells.{tell_free, tell_bound}
use Rattle.trees.specs.Models.{told_by_table}

pub name_told : (ar : List ℕ) (rs : List Row) (es : List Equation) (ls hs : List ℕ) → ∥ Sheet ar rs ∥₁ → ∥ Settled rs es ls hs ∥₁
    → (n : ℕ) → n < length rs → row rs n ≡ Row.name → TreeTold ar rs es n (told_by_table rs ls hs n)
name_told ar rs es ls hs sheets settleds n h name =
    let head = get_or hs (class ls n) 0 in
    let free = told 0 (free_group rs ls hs n * length rs) in
    elim (cases_lt head (length rs)) [
      | inl bound ↦
          subst (TreeTold ar rs es n) (sym (cond-true (ltb head (length rs)) (told 1 head) free (lt-ltb head (length rs) bound)))
          (tell_bound ar rs es ls hs sheets settleds n h name bound)
      | inr none ↦
          subst (TreeTold ar rs es n) (sym (cond-false (ltb head (length rs)) (told 1 head) free (le-ltb head (length rs) none)))
          (tell_free ar rs es ls hs sheets settleds n h name none)
    ]
