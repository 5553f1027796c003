use Rattle.std.proofs.Common.{ℕ, List, [], Option, sym, subst₂, rules}
use Rattle.sheet.specs.Indexes.{Indexed}
use Rattle.sheet.proofs.Indexes.{indexed_none}
use Rattle.sheet.proofs.index.Index.new.Goals as goal

pub returns : goal.returns
returns c =
    subst₂ (λ (fs es : List (Option ℕ)). Indexed [] fs es) (sym (c.in_ok-latest.ensures.items_if_clones_equal (λ y h. search rules)))
    (sym c.in_ok-earlier.ensures.items) indexed_none
