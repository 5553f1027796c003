use Rattle.std.proofs.Common.{◌≡◌, ℕ, ◌+◌, [], length, get_or, drop, vec_items, vec_len, vec_capacity, sym, refl, ap, ◌∙◌, subst, subst₂, arith}
use Rattle.rules.specs.Rules.{equations}
use Rattle.rules.proofs.Readiness.{ready_room}
use Rattle.walk.specs.declared.Word.{Word}
use Rattle.walk.specs.declared.Word.TheVariants as W
use Rattle.walk.specs.Written.{literals_of, written}
use Rattle.walk.specs.Walked.{Walked, Trying}
use Rattle.walk.proofs.Bests.{read}
use Rattle.walk.proofs.Trials.{walked_found, begin_trying, end_trying, skip_trying, over_trying, clash_trying, ready_inner, choices_inner, done_trying, next_trying, if_not_none, if_none, cut_back}
use Rattle.walk.proofs.+walk.Goals as goal
use Rattle.walk.proofs.+walk.Goals.{in-Equal+else-trials-budget+then-takes+in-None, in-Equal+else-trials-budget+else-takes, in_default-literal}

pub returns-in_default : goal.returns-in_default
returns-in_default g x c =
    let m = g.L.Logic in
    record {
      trials = c.requires.affords;
      capacity = refl;
      bare = tt;
      walks = λ good shown ready.
          walked_found m (written c.args.rules.now) c.args.budget c.args.logic.now c.args.made (vec_items c.args.choices.now) good (c.in_default.ensures.picks good) shown;
    }

pub returns-then-depth-eq0 : goal.returns-then-depth-eq0
returns-then-depth-eq0 g x c =
    let m = g.L.Logic in
    let s = c.args.logic.now in
    record {
      trials = c.requires.affords;
      capacity = refl;
      bare = refl;
      walks = λ good shown ready.
          let room = ready_room (m.theory s) (written c.args.rules.now) (m.stands s) c.args.depth c.in-Some.k ready (c.in-Some.ensures.picks good) in
          absurd (omega (arith, room.0, c.if-depth-eq0.true));
    }

pub loop-literal-init : goal.loop-literal-init
loop-literal-init g x c =
    let m = g.L.Logic in
    let rs = c.args.rules.now in
    let k = c.in-Some.k in
    let same : get_or (written rs) k [] ≡ c.literals-rule.result.now = read rs k c.index-rules-k.result c.in-Some.ensures.within ∙ ap literals_of (sym c.index-rules-k.is) ∙ sym c.literals-rule.ensures in (
      refl,
      refl,
      refl,
      c.requires.affords,
      λ good shown ready.
          begin_trying m (written rs) c.args.budget c.args.logic.now c.args.made k c.literals-rule.result.now same (c.in-Some.ensures.picks good) good,
    )

pub returns-then-trials-budget : goal.returns-then-trials-budget
returns-then-trials-budget g x c =
    let m = g.L.Logic in
    record {
      trials = c.loop-literal.invariant.3;
      capacity = c.loop-literal.invariant.2;
      bare = tt;
      walks = λ good shown ready.
          over_trying m (written c.args.rules.now) c.args.budget c.args.logic.now c.args.made c.in-Some.k c.literals-rule.result.now c.loop-literal.logic
          c.loop-literal.trials c.loop-literal.literal-index (c.loop-literal.invariant.4 good shown ready) _ c.in-Equal.e c.loop-literal-test.true c.in-Equal.is (vec_items c.loop-literal.choices) c.if-trials-budget.true;
    }

pub returns-in-Found : goal.returns-in-Found
returns-in-Found g x c =
    let m = g.L.Logic in
    let s = c.args.logic.now in
    let rs = c.args.rules.now in
    let k = c.in-Some.k in
    let ls = c.literals-rule.result.now in
    let z = c.loop-literal.logic in
    let v = c.takes.new.logic in
    let same : get_or (written rs) k [] ≡ ls = read rs k c.index-rules-k.result c.in-Some.ensures.within ∙ ap literals_of (sym c.index-rules-k.is) ∙ sym c.literals-rule.ensures in
    record {
      trials = c.walk-word.ensures.trials;
      capacity = omega (arith, c.walk-word.ensures.capacity, c.push_reserved.ensures.capacity, c.loop-literal.invariant.2);
      bare = if_not_none c.walk-word.result.0 _ c.in-Found.is;
      walks = λ good shown ready.
          let y = c.loop-literal.invariant.4 good shown ready in
          let p = c.in-Some.ensures.picks good in
          let keep = c.takes.ensures.keeps y.kept.lawful in
          let taken = c.if-takes.ensures.tried y.kept.lawful in
          let inner = ready_inner m (written rs) c.args.budget s c.args.made k ls z c.loop-literal.trials c.loop-literal.literal-index y _ c.in-Equal.e c.loop-literal-test.true c.in-Equal.is c.args.depth same p ready v keep taken in
          let listed = choices_inner m (written rs) c.args.budget s c.args.made k ls z c.loop-literal.trials c.loop-literal.literal-index y _ c.in-Equal.e c.loop-literal-test.true c.in-Equal.is c.args.depth same p ready v keep taken (vec_items c.args.choices.now) (vec_items c.loop-literal.choices) (vec_items c.push_reserved.new.self) shown c.loop-literal.invariant.0 c.push_reserved.ensures.items in
          done_trying m (written rs) c.args.budget s c.args.made k ls z c.loop-literal.trials c.loop-literal.literal-index y _ c.in-Equal.e c.loop-literal-test.true c.in-Equal.is c.args.depth same p ready v keep taken
          c.walk-word.result.0 c.walk-word.result.1 c.walk-word.new.logic (vec_items c.walk-word.new.choices) c.in-Found.is (omega (arith, c.if-trials-budget.false, c.loop-literal.invariant.3)) (c.walk-word.ensures.walks keep.lawful listed inner);
    }

pub loop-literal-preserved : goal.loop-literal-preserved
loop-literal-preserved g x c =
    let m = g.L.Logic in
    let s = c.args.logic.now in
    let rs = c.args.rules.now in
    let k = c.in-Some.k in
    let ls = c.literals-rule.result.now in
    let i = c.loop-literal.literal-index in
    let z = c.loop-literal.logic in
    let same : get_or (written rs) k [] ≡ ls = read rs k c.index-rules-k.result c.in-Some.ensures.within ∙ ap literals_of (sym c.index-rules-k.is) ∙ sym c.literals-rule.ensures in
    let P : g.row.L.Denot → ℕ → Type 0 = λ l n. Trying m (written rs) c.args.budget s c.args.made (equations (drop (i + 1) ls)) n l in
    elim c.match-literal.branch [
      | in-Equal+else-trials-budget+then-takes+in-None w ↦
          let v = w.takes.new.logic in
          let f = w.walk-word.new.logic in
          let j = w.back.new.self in
          let bare : vec_items w.walk-word.new.choices ≡ vec_items w.push_reserved.new.self =
          if_none w.walk-word.result.0 (vec_items w.walk-word.new.choices ≡ vec_items w.push_reserved.new.self) w.in-None.is w.walk-word.ensures.bare in
          let long : c.len-kept.result ≡ length (vec_items c.args.choices.now) = c.len-kept.ensures ∙ c.args.choices.now.ok.0 in
          let cut : vec_items w.truncate.new.self ≡ vec_items c.args.choices.now =
          cut_back (vec_items c.args.choices.now) (vec_items c.loop-literal.choices) (vec_items w.push_reserved.new.self) (vec_items w.walk-word.new.choices) (vec_items w.truncate.new.self) w.in-Equal.e c.len-kept.result long c.loop-literal.invariant.0 w.push_reserved.ensures.items bare w.truncate.ensures.items in
          let all : vec_items c.match-literal.choices ≡ vec_items c.args.choices.now = ap vec_items w.choices-is ∙ cut in (
            all,
            c.match-literal.choices.ok.0 ∙ ap length all ∙ sym c.args.choices.now.ok.0,
            ap vec_capacity w.choices-is ∙ omega (arith, w.truncate.ensures.capacity, w.walk-word.ensures.capacity, w.push_reserved.ensures.capacity, c.loop-literal.invariant.2),
            omega (arith, w.trials-is, w.walk-word.ensures.trials),
            λ good shown ready.
                let y = c.loop-literal.invariant.4 good shown ready in
                let p = c.in-Some.ensures.picks good in
                let keep = w.takes.ensures.keeps y.kept.lawful in
                let taken = w.if-takes.ensures.tried y.kept.lawful in
                let inner = ready_inner m (written rs) c.args.budget s c.args.made k ls z c.loop-literal.trials i y _ w.in-Equal.e c.loop-literal-test.true w.in-Equal.is c.args.depth same p ready v keep taken in
                let listed = choices_inner m (written rs) c.args.budget s c.args.made k ls z c.loop-literal.trials i y _ w.in-Equal.e c.loop-literal-test.true w.in-Equal.is c.args.depth same p ready v keep taken (vec_items c.args.choices.now) (vec_items c.loop-literal.choices) (vec_items w.push_reserved.new.self) shown c.loop-literal.invariant.0 w.push_reserved.ensures.items in
                let walked = w.walk-word.ensures.walks keep.lawful listed inner in
                let Q : Word → Type 0 = λ r. Walked m (written rs) c.args.budget v (c.loop-literal.trials + 1) r w.walk-word.result.1 f (vec_items w.walk-word.new.choices) in
                let ended : Q W.None = subst Q w.in-None.is walked in
                subst₂ P (sym w.logic-is) (sym w.trials-is)
                (next_trying m (written rs) c.args.budget s c.args.made k ls z c.loop-literal.trials i y _ w.in-Equal.e c.loop-literal-test.true w.in-Equal.is c.args.depth same p ready v keep taken
                w.walk-word.result.1 f (vec_items w.walk-word.new.choices) j c.len-kept.result
                (omega (arith, w.if-trials-budget.false, c.loop-literal.invariant.3)) (long ∙ ap length shown) ended (w.back.ensures.keeps ended.kept.lawful) (w.back.ensures.oldest ended.kept.lawful)),
          )
      | in-Equal+else-trials-budget+else-takes w ↦ (
        ap vec_items w.choices-is ∙ c.loop-literal.invariant.0,
        ap vec_len w.choices-is ∙ c.loop-literal.invariant.1,
        ap vec_capacity w.choices-is ∙ c.loop-literal.invariant.2,
        omega (arith, w.trials-is, w.if-trials-budget.false, c.loop-literal.invariant.3),
        λ good shown ready.
            let y = c.loop-literal.invariant.4 good shown ready in
            let p = c.in-Some.ensures.picks good in
            subst₂ P (sym w.logic-is) (sym w.trials-is)
            (clash_trying m (written rs) c.args.budget s c.args.made k ls z c.loop-literal.trials i y _ w.in-Equal.e c.loop-literal-test.true w.in-Equal.is c.args.depth same p ready w.takes.new.logic (omega (arith, w.if-trials-budget.false, c.loop-literal.invariant.3)) (w.takes.ensures.keeps y.kept.lawful) (w.if-takes.ensures.tried y.kept.lawful)),
      )
      | in_default-literal w ↦ (
        ap vec_items w.choices-is ∙ c.loop-literal.invariant.0,
        ap vec_len w.choices-is ∙ c.loop-literal.invariant.1,
        ap vec_capacity w.choices-is ∙ c.loop-literal.invariant.2,
        omega (arith, w.trials-is, c.loop-literal.invariant.3),
        λ good shown ready. subst₂ P (sym w.logic-is) (sym w.trials-is)
            (skip_trying m (written rs) c.args.budget s c.args.made k ls z c.loop-literal.trials i (c.loop-literal.invariant.4 good shown ready) _ w.in_default-literal.field-0 c.loop-literal-test.true w.in_default-literal.is),
      )
    ]

pub returns : goal.returns
returns g x c =
    let m = g.L.Logic in
    record {
      trials = c.loop-literal.invariant.3;
      capacity = c.loop-literal.invariant.2;
      bare = c.loop-literal.invariant.0;
      walks = λ good shown ready.
          end_trying m (written c.args.rules.now) c.args.budget c.args.logic.now c.args.made c.in-Some.k c.literals-rule.result.now c.loop-literal.logic
          c.loop-literal.trials c.loop-literal.literal-index (c.loop-literal.invariant.4 good shown ready) (vec_items c.loop-literal.choices) c.loop-literal-test.false;
    }
