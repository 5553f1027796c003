use Rattle.std.proofs.Common.{◌≡◌, vec_len, refl, ap, ◌∙◌, arith}
use Rattle.sheet.specs.Models.{arities_of, rows_of}
use Rattle.trees.proofs.Layering.{head_long}
use Rattle.trees.proofs.Turns.{reached_start}
use Rattle.trees.proofs.visits.Visits.visit_all.Goals as goal

pub loop-class-init : goal.loop-class-init
loop-class-init c =
    let layer = c.args.layer.now in
    let self = c.reset.new.self in
    let kept : vec_len self.lowest ≡ vec_len c.args.self.now.lowest = ap vec_len c.reset.ensures.lowest in (
      reached_start c.args.terms.list.now layer.table.items layer.heads.items c.args.terms.orderly c.requires.classes c.requires.heads (head_long layer ∙ c.requires.classes.long)
          self.marks.items (arities_of c.args.self.now.order) (arities_of self.order) (rows_of self.order) c.requires.sheet c.reset.ensures.arities c.reset.ensures.rows
          (omega (arith, kept, self.long, c.args.self.now.long, c.requires.marks, self.marks.ok.0))
          (λ d l. c.reset.ensures.unseen d (omega (arith, self.marks.ok.0))),
      refl,
      refl,
    )
