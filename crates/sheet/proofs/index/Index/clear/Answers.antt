use Rattle.std.proofs.Common.{ℕ, List, [], replicate, None, Option, sym, ap, ◌∙◌, subst₂, rules}
use Rattle.sheet.specs.Indexes.{Indexed}
use Rattle.sheet.proofs.Indexes.{indexed_none}
use Rattle.sheet.proofs.index.Index.clear.Goals as goal

pub returns : goal.returns
returns c =
    let none : Option ℕ = None in
    subst₂ (λ (fs es : List (Option ℕ)). Indexed [] fs es)
    (sym (c.fill.ensures.items (λ y h. search rules) ∙ ap (λ (n : ℕ). replicate n none) c.args.self.now.wide))
    (sym c.clear.ensures.items) indexed_none
