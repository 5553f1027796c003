-- What a visit needs, and how a class is written down. Assumes nothing.
use Rattle.std.specs.Prelude.{◌≡◌, ℕ, ◌+◌, ◌<◌, ◌≤◌, List, length, ◌≢◌, Result, is_ok, vec_items, slice_index, slice_set}
use Rattle.terms.specs.Sheets.{Row, row, Sheet}
use Rattle.classes.specs.Classes.{class as classed, Lowest}
use Rattle.unify.specs.declared.Mark.{Mark}
use Rattle.unify.specs.Merging.{Tops}
use Rattle.unify.specs.Visits.{mark, unseen, Numbered, Visited, Visits as Answered}
use Rattle.unify.specs.Settling.{number_of}
use Rattle.sheet.specs.declared.rows.Term.{Term}
use Rattle.sheet.specs.Models.{arities_of, rows_of}
use Rattle.trees.specs.declared.clash.Clash.{Clash}
use Rattle.trees.specs.declared.layer.Layer.{Layer}
use Rattle.trees.specs.declared.visits.Visits.{Visits}
use Rattle.trees.specs.Terms.{Orderly, rows, arguments_of}

-- From the marks ms and rows P the class c got a number, marked in ns: that of the row r among the rows S, which are P with at most
-- one row more.
pub record Placed (ms : List Mark) (P : List Row) (ns : List Mark) (S : List Row) (c : ℕ) (r : Row) : Type 0 where
  pub k : ℕ
  pub marked : ns ≡ slice_set ms c (Mark.Done k)
  pub within : k < length S
  pub is : row S k ≡ r
  pub rows : (j : ℕ) → j < length P → row S j ≡ row P j
  pub more : length P ≤ length S
  pub one : length S ≤ length P + 1
  pub new : r ≡ Row.name → length P ≤ k

-- What a visit finds: a table cs of classes with their heads hs on the terms ts, the marks ms, the rows Q over symbols of the
-- arities ar, and room for a row for each class that is unseen.
pub record Visiting (ts : List Term) (cs hs : List ℕ) (ms : List Mark) (ar : List ℕ) (Q : List Row) : Type 0 where
  pub terms : Orderly ts
  pub lowest : Lowest (length (rows ts)) cs
  pub tops : Tops (rows ts) (classed cs) hs
  pub long : length hs ≡ length (rows ts)
  pub sheet : Sheet ar (rows ts)
  pub visited : Visited (rows ts) (classed cs) hs ms Q
  pub room : length Q + unseen ms ≤ length (rows ts)

-- What is needed to write a class down by its head: the classes of the head's arguments have got numbers.
pub record Writing (ts : List Term) (cs : List ℕ) (ms : List Mark) (ar : List ℕ) (P : List Row) (c h : ℕ) : Type 0 where
  pub terms : Orderly ts
  pub lowest : Lowest (length (rows ts)) cs
  pub sheet : Sheet ar (rows ts)
  pub long : length ms ≡ length (rows ts)
  pub class : c < length ms
  pub head : h < length ts
  pub room : length P < 1024
  pub numbers : (i : ℕ) → i < length (arguments_of ts h) → number_of cs ms (slice_index (arguments_of ts h) i) < length P

-- How far the visit of all classes has come: each class below n has got its number, and none is left begun.
pub record Reached (ts : List Term) (cs hs : List ℕ) (ms : List Mark) (ar : List ℕ) (Q : List Row) (n : ℕ) : Type 0 where
  pub visiting : Visiting ts cs hs ms ar Q
  pub calm : (d : ℕ) → d < length (rows ts) → mark ms d ≢ Mark.Begun
  pub all : (c : ℕ) → c < n → classed cs c ≡ c → Numbered ms c

-- What a visit finds, of a layer and the visits so far.
abbrev pub Visitable : List Term → Layer → Visits → Type 0
Visitable ts l v = Visiting ts (vec_items l.table) (vec_items l.heads) (vec_items v.marks) (arities_of v.order) (rows_of v.order)

-- What is needed to write a class down by its head, of these.
abbrev pub Headed : List Term → Layer → Visits → ℕ → ℕ → Type 0
Headed ts l v c h = Writing ts (vec_items l.table) (vec_items v.marks) (arities_of v.order) (rows_of v.order) c h

-- From the visits v to w the class c got the number of the row r.
abbrev pub Writes : Visits → Visits → ℕ → Row → Type 0
Writes v w c r = Placed (vec_items v.marks) (rows_of v.order) (vec_items w.marks) (rows_of w.order) c r

-- What a visit answers that found the visits v and left w.
abbrev pub Goes : List Term → Layer → Visits → Visits → Type 0 → Result (Unit {0}) Clash → Type 0
Goes ts l v w goal r =
    Answered (rows ts) (classed (vec_items l.table)) (vec_items l.heads) (vec_items v.marks) (rows_of v.order) (vec_items w.marks) (rows_of w.order) goal (is_ok r)
