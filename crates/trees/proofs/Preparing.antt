-- What the layer after the newest says of the equation that it is made for. Assumes nothing.
use Rattle.std.proofs.Common.{◌≡◌, ℕ, ◌+◌, ◌<◌, true, Result, OnOk, OnErr, List, [], ◌∷◌, ◌++◌, length, sym, subst, subst₂, arith}
use mathlib.Core.Logic.{∥∥₁_map}
use Rattle.std.proofs.lemmas.Result.{on_ok_weaker, on_err_weaker}
use Rattle.logic.specs.Theories.{Clash as Clashes}
use Rattle.logic.specs.declared.Equation.{Equation}
use Rattle.terms.specs.Trees.{trees}
use Rattle.terms.proofs.Forced.{between}
use Rattle.classes.specs.Classes.{Settled}
use Rattle.classes.proofs.Decides.{settled_fits, refuted_clash}
use Rattle.sheet.specs.Models.{arities_of, rows_of}
use Rattle.sheet.specs.declared.writing.OpenSheet.{OpenSheet}
use Rattle.trees.specs.declared.clash.Clash.{Clash}
use Rattle.trees.specs.declared.layer.Layer.{Layer}
use Rattle.trees.specs.Layers.{table_at, heads_at, SettledAt, Layered, Wide, newest_settled, Nexts}
use Rattle.trees.proofs.Layering.{table_new, heads_new, wide_kept, layers_kept}

module _ (s : OpenSheet) (es : List Equation) (e : Equation) (ls ms : List Layer) (r : Result (Unit {0}) Clash) (room : length es + 1 < length ls)
    (next : Nexts (rows_of s) (length es) e ls ms r) (layers : ∥ Layered (rows_of s) es ls ∥₁) where
  pub layers_still : ∥ Layered (rows_of s) es ms ∥₁
  layers_still =
      subst (λ (ns : List Layer). ∥ Layered (rows_of s) es ns ∥₁) (sym next.placed) (∥∥₁_map layers (layers_kept (rows_of s) es ls next.next))

  pub wide_still : (n : ℕ) → ∥ Wide (rows_of s) ls n ∥₁ → ∥ Wide (rows_of s) ms n ∥₁
  wide_still n wide =
      subst (λ (ns : List Layer). ∥ Wide (rows_of s) ns n ∥₁) (sym next.placed)
      (∥∥₁_map wide (wide_kept ls (length es + 1) next.next (rows_of s) n room (omega (arith, next.wide, next.next.table.ok.0))))

  pub layer_ahead : OnOk r ∥ SettledAt (rows_of s) (es ++ (e ∷ [])) (length es + 1) ms ∥₁
  layer_ahead =
      on_ok_weaker r
      (λ settles. subst (λ (ns : List Layer). ∥ SettledAt (rows_of s) (es ++ (e ∷ [])) (length es + 1) ns ∥₁) (sym next.placed)
      (∥∥₁_map (newest_settled (rows_of s) es ls layers)
      (λ settled. subst₂ (λ (xs ys : List ℕ). Settled (rows_of s) (es ++ (e ∷ [])) xs ys)
      (sym (table_new ls (length es + 1) next.next room)) (sym (heads_new ls (length es + 1) next.next room)) (settles es settled)))) next.settles

  pub ahead_fits : OnOk r (Clashes (trees (arities_of s) (rows_of s)) es e → ⊥)
  ahead_fits =
      on_ok_weaker r (settled_fits (arities_of s) (rows_of s) es (table_at (length es + 1) ms) (heads_at (length es + 1) ms) e s.table.sheet) layer_ahead

  pub refused_clash : (trees (arities_of s) (rows_of s)).has e ≡ true → OnErr r (Clashes (trees (arities_of s) (rows_of s)) es e)
  refused_clash had =
      let sides = between (arities_of s) (rows_of s) e had in
      on_err_weaker r
      (λ refuted. refuted_clash (arities_of s) (rows_of s) es (table_at (length es) ls) (heads_at (length es) ls) e
      s.table.sheet (newest_settled (rows_of s) es ls layers) refuted sides.0 sides.1) next.refutes
