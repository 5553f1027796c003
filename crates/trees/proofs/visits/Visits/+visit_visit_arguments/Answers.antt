use Rattle.std.proofs.Common.{◌≡◌, ℕ, map, ◌<◌, length, is_ok, get_or, List, sym, refl, ap, ◌∙◌, subst, arith, set}
use Rattle.std.proofs.lemmas.List.{get_or_read}
use Rattle.terms.specs.Sheets.{Row, row}
use Rattle.classes.specs.Classes.{class}
use Rattle.unify.specs.declared.Mark.{Mark}
use Rattle.unify.specs.Visits.{mark, Numbered, AllNumbered, Inside}
use Rattle.sheet.specs.Models.{arities_of, rows_of}
use Rattle.trees.specs.Terms.{rows, arguments_of}
use Rattle.trees.specs.Places.{Placed, Writing}
use Rattle.unify.specs.Settling.{number_of}
use Rattle.trees.proofs.Ways.{argument_term}
use Rattle.trees.proofs.Turns.{visit_begun, begin_less, begin_visiting, begin_room, visit_name, begin_inside, head_writing, visit_head, next_class, next_inside, visit_rest}
use Rattle.trees.proofs.visits.Visits.+visit_visit_arguments.Goals as goal

pub visit-write_name-requires-clause-room : goal.visit-write_name-requires-clause-room
visit-write_name-requires-clause-room t c =
    let ts = c.args.terms.list.now in
    let cs = c.args.layer.now.table.items in
    let hs = c.args.layer.now.heads.items in
    let ms = c.args.self.now.marks.items in
    let ar = arities_of c.args.self.now.order in
    let Q = rows_of c.args.self.now.order in
    let visiting = c.requires.visiting in
    let was : mark ms c.args.class ≡ Mark.Unseen = sym (get_or_read ms _ _ (omega (arith, visiting.visited.long, visiting.terms.many)) c.index.ensures Mark.Unseen) ∙ c.in-Unseen.is in
    begin_room ts cs hs ms ar Q visiting c.args.class c.requires.class.0 c.requires.class.1 was

pub visit-returns-then-head-len-clause-visits : goal.visit-returns-then-head-len-clause-visits
visit-returns-then-head-len-clause-visits t c =
    let ts = c.args.terms.list.now in
    let cs = c.args.layer.now.table.items in
    let hs = c.args.layer.now.heads.items in
    let ms = c.args.self.now.marks.items in
    let ar = arities_of c.args.self.now.order in
    let Q = rows_of c.args.self.now.order in
    let visiting = c.requires.visiting in
    let was : mark ms c.args.class ≡ Mark.Unseen = sym (get_or_read ms _ _ (omega (arith, visiting.visited.long, visiting.terms.many)) c.index.ensures Mark.Unseen) ∙ c.in-Unseen.is in
    let head : c.index-head.result.now ≡ get_or hs c.args.class 0 = get_or_read hs _ _ (omega (arith, visiting.long, visiting.terms.many)) c.index-head.ensures 0 in
    visit_name ts cs hs ms ar Q visiting c.args.class c.requires.class.0 c.requires.class.1 was (omega (arith, head, c.len.ensures.count))
    c.write_name.new.self.marks.items (rows_of c.write_name.new.self.order) c.write_name.ensures.placed

pub visit-visit_arguments-requires : goal.visit-visit_arguments-requires
visit-visit_arguments-requires t c =
    let ts = c.args.terms.list.now in
    let cs = c.args.layer.now.table.items in
    let hs = c.args.layer.now.heads.items in
    let ms = c.args.self.now.marks.items in
    let ar = arities_of c.args.self.now.order in
    let Q = rows_of c.args.self.now.order in
    let visiting = c.requires.visiting in
    let was : mark ms c.args.class ≡ Mark.Unseen = sym (get_or_read ms _ _ (omega (arith, visiting.visited.long, visiting.terms.many)) c.index.ensures Mark.Unseen) ∙ c.in-Unseen.is in
    let head : c.index-head.result.now ≡ get_or hs c.args.class 0 = get_or_read hs _ _ (omega (arith, visiting.long, visiting.terms.many)) c.index-head.ensures 0 in
    let less = begin_less ts cs hs ms ar Q visiting c.args.class c.requires.class.0 c.requires.class.1 was in
    let small : get_or hs c.args.class 0 < length ts = omega (arith, head, c.len.ensures.count) in (
      omega (arith, less, c.decreases),
      (
        begin_visiting ts cs hs ms ar Q visiting c.args.class c.requires.class.0 c.requires.class.1 was,
        (
          omega (arith, c.len.ensures.count),
          (
            omega arith,
            subst (λ (k : ℕ). Inside (rows ts) (class cs) (set ms c.args.class Mark.Begun) k 0) (sym head) (begin_inside ts cs hs ms ar Q visiting c.args.class c.requires.class.0 c.requires.class.1 was small c.requires.inside),
          ),
        ),
      ),
    )

pub visit-write_head-requires : goal.visit-write_head-requires
visit-write_head-requires t c =
    let ts = c.args.terms.list.now in
    let cs = c.args.layer.now.table.items in
    let hs = c.args.layer.now.heads.items in
    let ms = c.args.self.now.marks.items in
    let ar = arities_of c.args.self.now.order in
    let Q = rows_of c.args.self.now.order in
    let visiting = c.requires.visiting in
    let was : mark ms c.args.class ≡ Mark.Unseen = sym (get_or_read ms _ _ (omega (arith, visiting.visited.long, visiting.terms.many)) c.index.ensures Mark.Unseen) ∙ c.in-Unseen.is in
    let head : c.index-head.result.now ≡ get_or hs c.args.class 0 = get_or_read hs _ _ (omega (arith, visiting.long, visiting.terms.many)) c.index-head.ensures 0 in
    let ns = c.visit_arguments.new.self.marks.items in
    let P = rows_of c.visit_arguments.new.self.order in
    let small : get_or hs c.args.class 0 < length ts = omega (arith, head, c.len.ensures.count) in
    let numbered = subst (λ (k : ℕ). AllNumbered (class cs) ns (arguments_of ts k) 0) head (c.in_ok-visit_arguments-in-Unseen.ensures.visits.reached refl) in
    record {
      writing = subst (λ (k : ℕ). Writing ts cs ns (arities_of c.visit_arguments.new.self.order) P c.args.class k) (sym head)
          (head_writing ts cs hs ms ar Q visiting c.args.class c.requires.class.0 c.requires.class.1 was small ns P (c.in_ok-visit_arguments-in-Unseen.ensures.visits.onward refl) numbered (arities_of c.visit_arguments.new.self.order) c.visit_arguments.ensures.arities);
    }

pub visit-returns-in-Begun-clause-visits : goal.visit-returns-in-Begun-clause-visits
visit-returns-in-Begun-clause-visits t c =
    let ts = c.args.terms.list.now in
    let cs = c.args.layer.now.table.items in
    let hs = c.args.layer.now.heads.items in
    let ms = c.args.self.now.marks.items in
    let ar = arities_of c.args.self.now.order in
    let Q = rows_of c.args.self.now.order in
    let visiting = c.requires.visiting in
    let was : mark ms c.args.class ≡ Mark.Begun = sym (get_or_read ms _ _ (omega (arith, visiting.visited.long, visiting.terms.many)) c.index.ensures Mark.Unseen) ∙ c.in-Begun.is in
    visit_begun ts cs hs ms ar Q visiting c.args.class c.requires.class.0 c.requires.class.1 c.requires.inside was

pub visit-returns-in_ok-visit_arguments-in-Unseen-clause-visits :
    goal.visit-returns-in_ok-visit_arguments-in-Unseen-clause-visits
visit-returns-in_ok-visit_arguments-in-Unseen-clause-visits t c =
    let ts = c.args.terms.list.now in
    let cs = c.args.layer.now.table.items in
    let hs = c.args.layer.now.heads.items in
    let ms = c.args.self.now.marks.items in
    let ar = arities_of c.args.self.now.order in
    let Q = rows_of c.args.self.now.order in
    let visiting = c.requires.visiting in
    let was : mark ms c.args.class ≡ Mark.Unseen = sym (get_or_read ms _ _ (omega (arith, visiting.visited.long, visiting.terms.many)) c.index.ensures Mark.Unseen) ∙ c.in-Unseen.is in
    let head : c.index-head.result.now ≡ get_or hs c.args.class 0 = get_or_read hs _ _ (omega (arith, visiting.long, visiting.terms.many)) c.index-head.ensures 0 in
    let ns = c.visit_arguments.new.self.marks.items in
    let P = rows_of c.visit_arguments.new.self.order in
    let os = c.write_head.new.self.marks.items in
    let S = rows_of c.write_head.new.self.order in
    let small : get_or hs c.args.class 0 < length ts = omega (arith, head, c.len.ensures.count) in
    let numbered = subst (λ (k : ℕ). AllNumbered (class cs) ns (arguments_of ts k) 0) head (c.in_ok-visit_arguments-in-Unseen.ensures.visits.reached refl) in
    visit_head ts cs hs ms ar Q visiting c.args.class c.requires.class.0 c.requires.class.1 was small ns P (c.in_ok-visit_arguments-in-Unseen.ensures.visits.onward refl) numbered os S
    (subst (λ (k : ℕ). (s : ℕ) (xs : List ℕ) → row (rows ts) k ≡ Row.over s xs → Placed ns P os S c.args.class (Row.over s (map (number_of cs ns) xs))) head c.write_head.ensures.placed)

pub visit_arguments-visit-requires : goal.visit_arguments-visit-requires
visit_arguments-visit-requires t c =
    let ts = c.args.terms.list.now in
    let cs = c.args.layer.now.table.items in
    let hs = c.args.layer.now.heads.items in
    let ms = c.args.self.now.marks.items in
    let ar = arities_of c.args.self.now.order in
    let Q = rows_of c.args.self.now.order in
    let visiting = c.requires.visiting in
    let h = c.args.head in
    let within : c.args.place < length (arguments_of ts h) = omega arith in
    let below = argument_term ts visiting.terms h c.args.place (omega (arith, visiting.terms.many)) within in
    let same : class cs (get_or (arguments_of ts h) c.args.place 0) ≡ c.index-class.result.now =
    ap (class cs) (sym c.argument.ensures) ∙ sym (get_or_read cs _ _ (omega (arith, c.argument.ensures, below, visiting.lowest.long)) c.index-class.ensures 0) in (
      omega (arith, c.decreases),
      (
        visiting,
        (
          subst (λ (k : ℕ). (k < length ts) × (class cs k ≡ k)) same (next_class ts cs hs ms ar Q visiting h c.args.place c.requires.head within),
          subst (λ (k : ℕ). Inside (rows ts) (class cs) ms k 1) same (next_inside ts cs hs ms ar Q visiting h c.args.place c.requires.head within c.requires.inside),
        ),
      ),
    )

pub visit_arguments-returns-clause-visits : goal.visit_arguments-returns-clause-visits
visit_arguments-returns-clause-visits t c =
    let ts = c.args.terms.list.now in
    let cs = c.args.layer.now.table.items in
    let hs = c.args.layer.now.heads.items in
    let ms = c.args.self.now.marks.items in
    let ar = arities_of c.args.self.now.order in
    let Q = rows_of c.args.self.now.order in
    let visiting = c.requires.visiting in
    let h = c.args.head in
    let within : c.args.place < length (arguments_of ts h) = omega arith in
    let ns = c.visit.new.self.marks.items in
    let below = argument_term ts visiting.terms h c.args.place (omega (arith, visiting.terms.many)) within in
    let same : c.index-class.result.now ≡ class cs (get_or (arguments_of ts h) c.args.place 0) =
    get_or_read cs _ _ (omega (arith, c.argument.ensures, below, visiting.lowest.long)) c.index-class.ensures 0 ∙ ap (class cs) c.argument.ensures in
    visit_rest ts cs hs ms ar Q visiting h c.args.place c.requires.head within ns (rows_of c.visit.new.self.order) (c.in_ok-visit.ensures.visits.onward refl)
    (subst (λ (k : ℕ). Numbered ns k) same (c.in_ok-visit.ensures.visits.reached refl))
    c.visit_arguments.new.self.marks.items (rows_of c.visit_arguments.new.self.order) (is_ok c.visit_arguments.result) c.visit_arguments.ensures.visits
