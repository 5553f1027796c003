use Rattle.std.proofs.Common.{◌≡◌, ℕ, get_or, None, vec_items, Option, sym, subst, arith}
use Rattle.std.proofs.lemmas.List.{get_or_read}
use Rattle.sheet.specs.Indexes.{In, Latest}
use Rattle.sheet.proofs.index.Index.earlier.Goals as goal

pub returns : goal.returns
returns c bs b x is =
    let earlier = vec_items c.args.self.now.earlier in
    let n = c.args.number in
    let read : c.index.result.now ≡ get_or earlier n None = get_or_read earlier n c.index.result.now c.requires c.index.ensures None in
    subst (λ (o : Option ℕ). Latest (In bs b) n o) (sym read) (x.before n b (omega (arith, x.long, c.requires)) is)
