use Rattle.std.proofs.Common.{◌≡◌, ℕ, length, get_or, None, vec_items, Option, sym, subst, arith}
use Rattle.std.proofs.lemmas.List.{get_or_read}
use Rattle.sheet.specs.Indexes.{In, Latest}
use Rattle.sheet.proofs.index.Index.latest.Goals as goal

pub returns : goal.returns
returns c bs x =
    let self = c.args.self.now in
    let b = c.args.bucket in
    let read : c.index.result.now ≡ get_or (vec_items self.latest) b None
    = get_or_read (vec_items self.latest) b c.index.result.now (omega (arith, c.requires, self.wide, self.latest.ok.0)) c.index.ensures None in
    subst (λ (o : Option ℕ). Latest (In bs b) (length bs) o) (sym read) (x.last b c.requires)
