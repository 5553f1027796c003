use Rattle.trees.proofs.Written.{terms_read}
use Rattle.trees.proofs.term_list.Terms.of.Goals as goal

pub invariant_of-result : goal.invariant_of-result
invariant_of-result c = record { orderly = terms_read c.args.sheet.now c.terms.result.now c.terms.ensures }
