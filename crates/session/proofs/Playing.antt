-- A list of calls, one after another. Assumes nothing.
use Rattle.std.proofs.Common.{◌≡◌, ℕ, ◌+◌, ◌<◌, ◌≤◌, List, [], ◌∷◌, ◌++◌, map, length, get_or, take, Result, sym, refl, ap, ◌∙◌, subst, subst₂}
use Rattle.std.proofs.lemmas.List.{map-append, take_more, take_all}
use Rattle.logic.specs.Answers.{Kept}
use Rattle.logic.specs.declared.Logic.{Ghosts}
use Rattle.logic.proofs.Sames.{kept_trans}
use Rattle.rules.proofs.Theorems.{laws}
use Rattle.session.specs.declared.Session.{Session}
use Rattle.session.specs.declared.Call.{Call}
use Rattle.session.specs.declared.Refusal.{Refusal}
use Rattle.session.specs.declared.Reply.{Reply}
use Rattle.session.specs.Calls.{Asking, Answer}
use Rattle.session.specs.Replies.{call_of, reply_of}
use Rattle.session.specs.LedBy.{LedBy, Continues, Plays, Playing}
use Rattle.session.proofs.Moved.{run_moved}
use Rattle.session.proofs.Single.{run_single}

module _ {X : Type 0} (G : Ghosts X) (e : Session X) where
  -- one call more
  pub next_playing : (calls : List Call) (i : ℕ) (d : Call) (s z : Session X) (rs qs : List (Result Reply Refusal)) (r : Result Reply Refusal)
      → i < length calls → qs ≡ rs ++ (r ∷ []) → Playing G e (take i calls) s rs
      → Continues G s (call_of (get_or calls i d)) (reply_of r) z → Playing G e (take (i + 1) calls) z qs
  next_playing calls i d s z rs qs r h pushed p on =
      let asked : map call_of (take (i + 1) calls) ≡ map call_of (take i calls) ++ (call_of (get_or calls i d) ∷ []) =
      ap (map call_of) (take_more calls i d h) ∙ map-append call_of (take i calls) (get_or calls i d ∷ []) in
      let replied : map reply_of qs ≡ map reply_of rs ++ (reply_of r ∷ []) = ap (map reply_of) pushed ∙ map-append reply_of rs (r ∷ []) in
      let after = on (map call_of (take i calls)) (map reply_of rs) p.led in
      record {
        led = subst₂ (λ (x : List Asking) (y : List Answer). LedBy G z x y) (sym asked) (sym replied) after.1;
        kept = kept_trans p.kept after.0;
      }

  -- all calls are made, in a session that was begun on l
  pub end_playing : (l : X) (calls : List Call) (i : ℕ) (s : Session X) (rs : List (Result Reply Refusal)) → length calls ≤ i
      → Kept (G.theory l) (G.theory e.logic) (G.telling l) (G.telling e.logic) (G.lawful e.logic)
      → Playing G e (take i calls) s rs → Plays G l calls s rs
  end_playing l calls i s rs h begun p =
      let led = subst (λ (x : List Call). LedBy G s (map call_of x) (map reply_of rs)) (take_all i calls h) p.led in
      let kept = kept_trans begun p.kept in
      let run = run_moved (G.theory s.logic) (G.theory l) kept.theory led.run in
      record {
        played = (_, run);
        only = λ others p. (run_single (G.theory l) p.1 run refl).0;
        led = led;
        kept = kept;
        laws = laws (G.theory l);
      }
