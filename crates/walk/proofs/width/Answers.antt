use Rattle.std.proofs.Common.{◌≡◌, length, ◌∙◌, rules, tests}
use Rattle.std.specs.List.{filter}
use Rattle.std.proofs.lemmas.Iterator.{YieldsList-from_slice}
use Rattle.std.proofs.lemmas.Iterator.Consumers.{YieldsList-at, YieldsList-from_filter, count_from_yields_List}
use Rattle.walk.proofs.Literals.{asserts, asserted_width}
use Rattle.walk.proofs.width.Goals as goal

pub returns : goal.returns
returns c =
    let ls = c.args.rule.now in
    let counted : c.count.result ≡ length (filter asserts ls)
    = count_from_yields_List c.filter.result c.count.result c.count.ensures.ran
    (YieldsList-from_filter _ asserts (YieldsList-at c.filter.ensures.source (YieldsList-from_slice ls cc)) c.filter.ensures.closure (λ x r q k. search (rules, tests))) in
    counted ∙ asserted_width ls
