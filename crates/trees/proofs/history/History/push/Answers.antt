use Rattle.std.proofs.Common.{List, sym, subst}
use mathlib.Core.Logic.{∥∥₁_map₂}
use Rattle.logic.specs.declared.Equation.{Equation}
use Rattle.trees.specs.Layers.{Layered}
use Rattle.trees.specs.Models.{rows_in, stands_in}
use Rattle.trees.proofs.Layering.{layers_push}
use Rattle.trees.proofs.history.History.push.Goals as goal

pub invariant_of-self : goal.invariant_of-self
invariant_of-self c =
    let self = c.args.self.now in
    record {
      full = self.full;
      wide = self.wide;
      ready = self.ready;
      settled = subst (λ (fs : List Equation). ∥ Layered (rows_in self) fs self.layers.items ∥₁) (sym c.note.ensures)
          (∥∥₁_map₂ c.requires.prepared self.settled (layers_push (rows_in self) (stands_in self) self.layers.items c.args.e));
    }
