-- The code's calls and replies, by the numbers of their cases. Assumes nothing.
use Rattle.std.specs.Prelude.{ℕ, Ok, Err, Result}
use Rattle.session.specs.declared.Refusal.{Refusal}
use Rattle.session.specs.declared.Refusal.TheVariants as R
use Rattle.session.specs.declared.Call.{Call}
use Rattle.session.specs.declared.Call.TheVariants as C
use Rattle.session.specs.declared.Reply.{Reply}
use Rattle.session.specs.declared.Reply.TheVariants as P
use Rattle.session.specs.Calls.{Asking, Answer}
use Rattle.session.specs.Calls.Asking.{post, opens, closes, ask, choice}
use Rattle.session.specs.Calls.Answer.{granted, refused, answered, chosen}

-- The number of each refusal.
abbrev pub refusal_number : Refusal → ℕ
refusal_number R.TooLong = 11
refusal_number R.Foreign = 12
refusal_number R.Untold = 17
refusal_number R.NoChoice = 18
refusal_number R.ManyRules = 31
refusal_number R.ManyScopes = 32
refusal_number R.NoScope = 33
refusal_number R.NothingShown = 34

-- The answer that a result of post, open or close stands for.
abbrev pub granted_or : Result (Unit {0}) Refusal → Answer
granted_or (Ok x) = granted
granted_or (Err r) = refused (refusal_number r)

-- The answer that a result of choice stands for.
abbrev pub chosen_or : Result (ℕ × ℕ) Refusal → Answer
chosen_or (Ok p) = chosen p.0 p.1
chosen_or (Err r) = refused (refusal_number r)

-- The call that a value stands for.
abbrev pub call_of : Call → Asking
call_of (C.Post r) = post r.now
call_of C.Open = opens
call_of C.Close = closes
call_of (C.Ask b) = ask b
call_of (C.Choice k) = choice k

-- The answer that a reply or a refusal stands for.
abbrev pub reply_of : Result Reply Refusal → Answer
reply_of (Ok P.Granted) = granted
reply_of (Ok (P.Answered w m)) = answered w m
reply_of (Ok (P.Chosen l r)) = chosen l r
reply_of (Err r) = refused (refusal_number r)
