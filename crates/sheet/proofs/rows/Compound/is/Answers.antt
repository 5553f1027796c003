use Rattle.std.proofs.Common.{◌≡◌, ℕ, List, take, Decides, subst, ap₂}
use Rattle.std.proofs.lemmas.Slice.Eq.{slice_eq-Decides}
use Rattle.terms.specs.Sheets.{Row}
use Rattle.sheet.proofs.rows.Compound.is.Goals as goal
use Rattle.std.proofs.lemmas.Bool.Decides.{Decides-eqb}

pub returns-then-self-symbol : goal.returns-then-self-symbol
returns-then-self-symbol c =
    let self = c.args.self.now in
    let told : Decides c.eq.result (take self.arity self.arguments ≡ c.args.arguments.now)
    = subst (λ (ys : List ℕ). Decides c.eq.result (ys ≡ c.args.arguments.now)) c.arguments.ensures (slice_eq-Decides Decides-eqb _ _ _ c.eq.ensures) in
    (λ yes. ap₂ Row.over c.if-self-symbol.true (told.0 yes), λ is. told.1 (cc))
