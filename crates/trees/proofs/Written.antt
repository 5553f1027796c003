-- The terms that are read of a sheet, and the visits of them. Assumes nothing.
use Rattle.std.proofs.Common.{◌≡◌, ◌≤◌, List, length, vec_len, sym, ap, ◌∙◌, subst, arith}
use mathlib.Core.HLevel.{hedberg}
use mathlib.Core.Logic.{∥∥₁_elim, ∥∥₁_map}
use native.Mathlib.Decide.{ℕ_discrete}
use Rattle.std.proofs.lemmas.List.{length-map}
use Rattle.terms.specs.Sheets.{Row, Sheet}
use Rattle.terms.proofs.Rows.{arguments_lower}
use Rattle.sheet.specs.Rows.{shape}
use Rattle.sheet.specs.Models.{arities_of, rows_of, Read}
use Rattle.sheet.specs.declared.rows.Term.{Term}
use Rattle.sheet.specs.declared.writing.OpenSheet.{OpenSheet}
use Rattle.sheet.proofs.Sheets.{sheet_plain}
use Rattle.trees.specs.Terms.{Orderly, rows}
use Rattle.trees.specs.Layers.{Ready}
use Rattle.trees.specs.declared.visits.Visits.{Visits}

module _ (s : OpenSheet) (ts : List Term) (read : Read s ts) where
  pub many : length ts ≡ length (rows_of s)
  many = sym (length-map ts shape) ∙ ap length read.rows

  pub few : length ts ≤ 1024
  few = omega (arith, many, read.sheet.few)

  pub terms_read : Orderly ts
  terms_read =
      let sheet : Sheet (arities_of s) (rows ts) = subst (λ (rs : List Row). Sheet (arities_of s) rs) (sym read.rows) read.sheet in
      record { few = few; many = length-map ts shape; lower = λ a i h l. arguments_lower (arities_of s) (rows ts) sheet a i (omega (arith, length-map ts shape)) l }

  -- visits that are ready for the sheet are ready for its terms
  pub ready_terms : (v : Visits) → ∥ Ready (rows_of s) v ∥₁ → Ready (rows ts) v
  ready_terms v ready =
      subst (λ (rs : List Row). Ready rs v) (sym read.rows)
      (record {
        marks = ∥∥₁_elim ready (hedberg ℕ_discrete (vec_len v.marks) (length (rows_of s))) (λ r. r.marks);
        sheet = sheet_plain (arities_of v.order) (rows_of s) (∥∥₁_map ready (λ r. r.sheet));
      })

  pub ready_sheet : (v : Visits) → Ready (rows ts) v → Ready (rows_of s) v
  ready_sheet v = subst (λ (rs : List Row). Ready rs v) read.rows
