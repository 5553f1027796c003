-- What a push and a pop answer and leave behind. Assumes nothing.
use Rattle.std.specs.Prelude.{◌≡◌, ℕ, ◌<◌, List, [], ◌∷◌, ◌++◌, length, Some, None, Ok, Err, Option, Result}
use Rattle.bounded.specs.declared.Full.{Full}

module _ {T : Type 0} where
  -- The item x was pushed onto xs, of which there may be n, and ys are there now: it is refused exactly where there are n, and
  -- else it is the last.
  abbrev pub Pushes : ℕ → List T → T → Result (Unit {0}) Full → List T → Type 0
  Pushes n xs x (Ok u) ys = (length xs < n) × (ys ≡ xs ++ (x ∷ []))
  Pushes n xs x (Err full) ys = (length xs ≡ n) × (ys ≡ xs)

  -- The last item of xs was removed, and ys are left; or there was none.
  abbrev pub Pops : List T → Option T → List T → Type 0
  Pops xs (Some x) ys = xs ≡ ys ++ (x ∷ [])
  Pops xs None ys = (xs ≡ []) × (ys ≡ [])
