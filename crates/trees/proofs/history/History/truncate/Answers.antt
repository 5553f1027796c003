use Rattle.std.proofs.Common.{List, sym, subst}
use mathlib.Core.Logic.{∥∥₁_map}
use Rattle.logic.specs.declared.Equation.{Equation}
use Rattle.trees.specs.Layers.{Layered}
use Rattle.trees.specs.Models.{rows_in, stands_in}
use Rattle.trees.proofs.Layering.{layers_back}
use Rattle.trees.proofs.history.History.truncate.Goals as goal

pub invariant_of-self : goal.invariant_of-self
invariant_of-self c =
    let self = c.args.self.now in
    record {
      full = self.full;
      wide = self.wide;
      ready = self.ready;
      settled = subst (λ (fs : List Equation). ∥ Layered (rows_in self) fs self.layers.items ∥₁) (sym c.truncate.ensures)
          (∥∥₁_map self.settled (layers_back (rows_in self) (stands_in self) self.layers.items c.args.n));
    }
