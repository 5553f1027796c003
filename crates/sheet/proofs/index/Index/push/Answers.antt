use Rattle.std.proofs.Common.{◌≡◌, ℕ, ◌<◌, [], ◌∷◌, ◌++◌, length, get_or, None, vec_items, Option, IfSome, ap, ◌∙◌, subst, arith}
use Rattle.std.proofs.lemmas.List.{get_or_read}
use Rattle.sheet.proofs.Indexes.{indexed_in, indexed_out}
use Rattle.sheet.proofs.index.Index.push.Goals as goal

pub returns-in-Some : goal.returns-in-Some
returns-in-Some c bs x =
    let self = c.args.self.now in
    let b = c.in-Some.bucket in
    let latest = vec_items self.latest in
    let earlier = vec_items self.earlier in
    let within : b < 2039 = subst (λ (o : Option ℕ). IfSome o (λ v. v < 2039)) c.in-Some.is c.requires.within in
    let wide : length latest ≡ 2039 = omega (arith, self.wide, self.latest.ok.0) in
    let number : length bs ≡ c.len-number.result = omega (arith, x.long, c.len-number.ensures, self.earlier.ok.0) in
    let read : c.index.result.now ≡ get_or latest b None = get_or_read latest b c.index.result.now (omega arith) c.index.ensures None in
    let pushed : vec_items c.push_reserved.new.self ≡ earlier ++ (get_or latest b None ∷ []) = c.push_reserved.ensures.items ∙ ap (λ (o : Option ℕ). earlier ++ (o ∷ [])) read in
    rw (c.in-Some.is, pushed, ← number) (indexed_in bs b latest earlier within wide x)

pub returns-in-None : goal.returns-in-None
returns-in-None c bs x =
    let self = c.args.self.now in
    rw (c.in-None.is, c.push_reserved-in-None.ensures.items) (indexed_out bs (vec_items self.latest) (vec_items self.earlier) x)
