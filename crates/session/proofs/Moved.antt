-- Runs over theories that agree. Assumes nothing.
use Rattle.std.proofs.Common.{ℕ, List, [], get_or, Some, None, Option, inl, inr}
use Rattle.logic.specs.Theories.{Theory, Same}
use Rattle.logic.specs.declared.Equation.{Equation}
use Rattle.logic.proofs.Sames.{same_sym}
use Rattle.rules.specs.declared.Literal.{Literal}
use Rattle.rules.specs.Laws.{Never}
use Rattle.rules.proofs.Moved.{rule_moved, meets_moved, walk_moved, example_moved}
use Rattle.walk.specs.declared.Word.{Word}
use Rattle.walk.specs.declared.Word.TheVariants as W
use Rattle.session.specs.Calls.{Asking, Answer}
use Rattle.session.specs.Calls.Asking.{post, opens, closes, ask, choice}
use Rattle.session.specs.Calls.Answer.{granted, refused, answered, chosen}
use Rattle.session.specs.Steps.{State, PostRefused, Answers, Step}
use Rattle.session.specs.Law.{AskLaw, LastLaw, ShownLaw}
use Rattle.session.specs.Runs.{Run}
use Rattle.session.specs.Runs.Run.{begin, next}

module _ (t u : Theory) (s : Same t u) where
  refused_moved : (x : State) (r : List Literal) (n : ℕ) → PostRefused t x r n → PostRefused u x r n
  refused_moved x r n (inl long) = inl long
  refused_moved x r n (inr (inl lacks)) = inr (inl (lacks.0, λ had. lacks.1 (rule_moved u t (same_sym s) r had), lacks.2))
  refused_moved x r n (inr (inr full)) = inr (inr (full.0, rule_moved t u s r full.1, full.2, full.3))

  answers_moved : (x : State) (b : ℕ) (w : Word) (m : ℕ) (z : State) → Answers t x b w m z → Answers u x b w m z
  answers_moved x b W.Found m z a = (a.0, walk_moved t u s x.rules b a.1, a.2)
  answers_moved x b W.None m z a = (walk_moved t u s x.rules b a.0, a.1)
  answers_moved x b W.Spent m z a = (walk_moved t u s x.rules b a.0, a.1)

  step_moved : (x : State) (c : Asking) (r : Answer) (z : State) → Step t x c r z → Step u x c r z
  step_moved x (post l) granted z h = (h.0, rule_moved t u s l h.1, h.2, h.3)
  step_moved x (post l) (refused n) z h = (refused_moved x l n h.0, h.1)
  step_moved x (post l) (answered w m) z h = h
  step_moved x (post l) (chosen a b) z h = h
  step_moved x opens granted z h = h
  step_moved x opens (refused n) z h = h
  step_moved x opens (answered w m) z h = h
  step_moved x opens (chosen a b) z h = h
  step_moved x closes granted z h = h
  step_moved x closes (refused n) z h = h
  step_moved x closes (answered w m) z h = h
  step_moved x closes (chosen a b) z h = h
  step_moved x (ask b) granted z h = h
  step_moved x (ask b) (refused n) z h = h
  step_moved x (ask b) (answered w m) z h = answers_moved x b w m z h
  step_moved x (ask b) (chosen l r) z h = h
  step_moved x (choice k) granted z h = h
  step_moved x (choice k) (refused n) z h = h
  step_moved x (choice k) (answered w m) z h = h
  step_moved x (choice k) (chosen l r) z h = h

  never_moved : (R : List (List Literal)) → Never t R → Never u R
  never_moved R never w own met = never w ((s.own w).1 own) (λ k h. meets_moved u t (same_sym s) w (get_or R k []) (met k h))

  pub shown_moved : (R : List (List Literal)) (o : Option (List Equation)) → ShownLaw t R o → ShownLaw u R o
  shown_moved R None l = tt
  shown_moved R (Some C) l = example_moved t u s R C l

module _ (t u : Theory) (s : Same t u) where
  ask_moved : (R : List (List Literal)) (b : ℕ) (w : Word) (m : ℕ) → AskLaw t R b w m → AskLaw u R b w m
  ask_moved R b w m l =
      record {
        none = λ unspent. (λ e. never_moved t u s R ((l.none unspent).0 e), λ never. (l.none unspent).1 (never_moved u t (same_sym s) R never));
        trials = l.trials;
        enough = l.enough;
      }

  last_moved : (c : Asking) (r : Answer) (z : State) → LastLaw t c r z → LastLaw u c r z
  last_moved (post l) r z h = tt
  last_moved opens r z h = tt
  last_moved closes r z h = tt
  last_moved (ask b) granted z h = tt
  last_moved (ask b) (refused n) z h = tt
  last_moved (ask b) (answered w m) z h = ask_moved z.rules b w m h
  last_moved (ask b) (chosen l r) z h = tt
  last_moved (choice k) r z h = tt

  pub run_moved : {cs : List Asking} {rs : List Answer} {z : State} → Run t cs rs z → Run u cs rs z
  run_moved begin = begin
  run_moved (next {s = x} {z = z} c r run step after) =
      next c r (run_moved run) (step_moved t u s x c r z step)
      (record { last = last_moved c r z after.last; shown = shown_moved t u s z.rules z.shown after.shown })
