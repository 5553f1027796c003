-- What a session tells. Assumes nothing.
use Rattle.std.specs.Prelude.{◌≡◌, ℕ, List, Some, None, Ok, Err, Option, Result}
use Rattle.logic.specs.Tellings.{Telling, Told, kind_number}
use Rattle.logic.specs.Tellings.Told.{told, refused}
use Rattle.logic.specs.declared.Equation.{Equation}
use Rattle.logic.specs.declared.Kind.{Kind}
use Rattle.session.specs.declared.Refusal.{Refusal}
use Rattle.session.specs.Replies.{refusal_number}

-- What a result of the session's tell stands for.
abbrev pub told_or : Result (Kind × ℕ) Refusal → Told
told_or (Ok p) = told (kind_number p.0) p.1
told_or (Err r) = refused (refusal_number r)

-- Where nothing is shown, it is refused with 34; while choices are shown, it answers what the logic tells where they stand.
abbrev pub Tells : Telling → Option (List Equation) → ℕ → Result (Kind × ℕ) Refusal → Type 0
Tells t None n r = told_or r ≡ refused 34
Tells t (Some C) n r = t.answer C n (told_or r)
