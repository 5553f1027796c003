-- What the calls that write a sheet answer and leave behind. Assumes nothing.
use Rattle.std.specs.Prelude.{◌≡◌, ℕ, ◌<◌, ◌≤◌, ◌⊎◌, List, [], ◌∷◌, ◌++◌, length, Ok, Err, Result, ◌≢◌, slice_index}
use Rattle.terms.specs.Sheets.{Row, Writable}
use Rattle.sheet.specs.declared.Refusal.{Refusal}
use Rattle.sheet.specs.Refusals.{refusal_number}
use Rattle.sheet.specs.Rows.{Stands, Absent}

-- What a call answers: the number of a symbol or a term, or a refusal by its number.
pub data Answer : Type 0 where
  granted : ℕ → Answer
  refused : ℕ → Answer

-- The answer that a result stands for.
abbrev pub answer_of : Result ℕ Refusal → Answer
answer_of (Ok n) = granted n
answer_of (Err e) = refused (refusal_number e)

-- Where the symbols have the arities ar, a symbol of arity a is asked for, and they have the arities br after it.
abbrev pub AddsSymbol : List ℕ → ℕ → Answer → List ℕ → Type 0
AddsSymbol ar a (Answer.granted n) br = (a ≤ 8) × (length ar < 16) × (n ≡ length ar) × (br ≡ ar ++ (a ∷ []))
AddsSymbol ar a (Answer.refused k) br = (((8 < a) × (k ≡ 13)) ⊎ ((a ≤ 8) × (length ar ≡ 16) × (k ≡ 35))) × (br ≡ ar)

-- Where the rows are rs, a new row r is asked for, and they are qs after it.
abbrev pub AddsRow : List Row → Row → Answer → List Row → Type 0
AddsRow rs r (Answer.granted n) qs = (length rs < 1024) × (n ≡ length rs) × (qs ≡ rs ++ (r ∷ []))
AddsRow rs r (Answer.refused k) qs = (length rs ≡ 1024) × (k ≡ 36) × (qs ≡ rs)

-- Where the rows are rs, a name is asked for, and they are qs after it.
abbrev pub AddsName : List Row → Answer → List Row → Type 0
AddsName rs a qs = AddsRow rs Row.name a qs

-- Where n terms stand, the symbol s can't be written over xs: the refusal k says why, and the first cause counts.
abbrev pub Unwritable : List ℕ → ℕ → ℕ → List ℕ → ℕ → Type 0
Unwritable ar n s xs k =
    ((length ar ≤ s) × (k ≡ 14))
    ⊎ ((s < length ar) × (length xs ≢ slice_index ar s) × (k ≡ 15))
    ⊎ ((s < length ar) × (length xs ≡ slice_index ar s) × ((i : ℕ) × (i < length xs) × (n ≤ slice_index xs i)) × (k ≡ 16))

-- Where the rows are rs, the symbol s over xs is asked for, and they are qs after it: its old number where it was written
-- before, and else a new row.
abbrev pub AddsTerm : List ℕ → List Row → ℕ → List ℕ → Answer → List Row → Type 0
AddsTerm ar rs s xs (Answer.granted n) qs =
    Writable ar (length rs) s xs
    × ((Stands rs (Row.over s xs) n × (qs ≡ rs)) ⊎ (Absent rs (Row.over s xs) × AddsRow rs (Row.over s xs) (Answer.granted n) qs))
AddsTerm ar rs s xs (Answer.refused k) qs =
    (Unwritable ar (length rs) s xs k × (qs ≡ rs))
    ⊎ (Writable ar (length rs) s xs × Absent rs (Row.over s xs) × AddsRow rs (Row.over s xs) (Answer.refused k) qs)
