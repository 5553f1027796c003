use Rattle.sides.specs.declared.Side.TheVariants.{First, Second}
use Rattle.sides.proofs.Calls.{each_side}
use Rattle.pair.proofs.both.Both.back.Goals as goal

pub returns : goal.returns
returns g c =
    λ l. record {
      kept = each_side _ (c.back.ensures.keeps (l First)) (c.back-2.ensures.keeps (l Second));
      oldest = each_side _ (c.back.ensures.oldest (l First)) (c.back-2.ensures.oldest (l Second));
    }
