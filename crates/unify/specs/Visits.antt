-- Visiting the classes, each after those of its arguments: each class gets the number of a row over the numbers of its
-- arguments' classes. Assumes nothing.
use Rattle.std.specs.Prelude.{◌≡◌, ℕ, suc, ◌+◌, ◌<◌, ◌≤◌, Bool, true, false, List, length, get_or, slice_index, slice_index_or}
use Rattle.logic.specs.Trees.{Tree, Forest}
use Rattle.groups.specs.Tables.{tally}
use Rattle.terms.specs.Sheets.{Row, row, arguments}
use Rattle.terms.specs.Values.{Solves}
use Rattle.classes.specs.Classes.{Respects}
use Rattle.unify.specs.declared.Mark.{Mark}
use Rattle.unify.specs.declared.Mark.TheVariants as M

-- The mark of a class.
abbrev pub mark : List Mark → ℕ → Mark
mark ms c = slice_index_or ms c Mark.Unseen

-- The visit of the class is not begun.
abbrev pub fresh : Mark → Bool
fresh M.Unseen = true
fresh M.Begun = false
fresh (M.Done k) = false

-- How many classes are unseen.
unfoldable pub unseen : List Mark → ℕ
unseen ms = tally (λ c. fresh (mark ms c)) (length ms)

-- The number that a mark has, or 0.
abbrev pub number : Mark → ℕ
number M.Unseen = 0
number M.Begun = 0
number (M.Done k) = k

-- The class c has got a number.
abbrev pub Numbered : List Mark → ℕ → Type 0
Numbered ms c = mark ms c ≡ Mark.Done (number (mark ms c))

-- The class of c has, by the rows Q, the number k: a name where the class has only names, and otherwise the symbol of its head
-- over the numbers of the classes of the head's arguments.
pub record Entry (rs : List Row) (f : ℕ → ℕ) (hs : List ℕ) (ms : List Mark) (Q : List Row) (c k : ℕ) : Type 0 where
  pub within : k < length Q
  pub name : length rs ≤ slice_index hs c → row Q k ≡ Row.name
  pub numbers : List ℕ
  pub compound : (s : ℕ) (xs : List ℕ) → slice_index hs c < length rs → row rs (slice_index hs c) ≡ Row.over s xs → row Q k ≡ Row.over s numbers
  pub long : get_or hs c 0 < length rs → length numbers ≡ length (arguments (row rs (slice_index hs c)))
  pub each : (i : ℕ) → slice_index hs c < length rs → i < length (arguments (row rs (slice_index hs c))) →
      mark ms (f (slice_index (arguments (row rs (slice_index hs c))) i)) ≡ Mark.Done (slice_index numbers i)

-- What holds of marks and rows all along: each class that is done has its number, and a name's number is of one class.
pub record Visited (rs : List Row) (f : ℕ → ℕ) (hs : List ℕ) (ms : List Mark) (Q : List Row) : Type 0 where
  pub long : length ms ≡ length rs
  pub done : (c k : ℕ) → c < length rs → mark ms c ≡ Mark.Done k → Entry rs f hs ms Q c k
  pub alone : (c d k : ℕ) → c < length rs → d < length rs → mark ms c ≡ Mark.Done k → mark ms d ≡ Mark.Done k → row Q k ≡ Row.name → c ≡ d

-- From the marks ms and rows Q a visit goes on to ns and P: numbers and rows stay, and the same
-- classes are begun.
pub record Onward (rs : List Row) (f : ℕ → ℕ) (hs : List ℕ) (ms : List Mark) (Q : List Row) (ns : List Mark) (P : List Row) : Type 0 where
  pub visited : Visited rs f hs ns P
  pub rows : (k : ℕ) → k < length Q → row P k ≡ row Q k
  pub more : length Q ≤ length P
  pub keeps : (c k : ℕ) → mark ms c ≡ Mark.Done k → mark ns c ≡ Mark.Done k
  pub stays : (c : ℕ) → mark ms c ≡ Mark.Begun → mark ns c ≡ Mark.Begun
  pub begun : (c : ℕ) → mark ns c ≡ Mark.Begun → mark ms c ≡ Mark.Begun
  pub fewer : unseen ns ≤ unseen ms
  pub count : length P + unseen ns ≤ length Q + unseen ms

-- No trees fit the rows and the classes.
abbrev pub Unfit : List Row → (ℕ → ℕ) → Type 0
Unfit rs f = (v : ℕ → Tree) → Solves rs v → Respects (length rs) f v → ⊥

-- What a visit answers. Yes: it went on, and reached its goal. No: no trees fit.
pub record Visits (rs : List Row) (f : ℕ → ℕ) (hs : List ℕ) (ms : List Mark) (Q : List Row) (ns : List Mark) (P : List Row) (goal : Type 0) (r : Bool) : Type 0 where
  pub onward : r ≡ true → Onward rs f hs ms Q ns P
  pub reached : r ≡ true → goal
  pub stuck : r ≡ false → Unfit rs f

-- The classes of the arguments xs from a place on have got numbers.
abbrev pub AllNumbered : (ℕ → ℕ) → List Mark → List ℕ → ℕ → Type 0
AllNumbered f ms xs at = (i : ℕ) → at ≤ i → i < length xs → Numbered ms (f (slice_index xs i))

abbrev mutual
  -- How many symbols a tree has.
  pub size : Tree → ℕ
  size (Tree.node s f) = suc (sizes f)

  -- How many symbols the trees of a forest have.
  pub sizes : Forest → ℕ
  sizes Forest.none = 0
  sizes (Forest.more t f) = size t + sizes f

-- In all trees that fit, each class whose visit is begun has a tree of at least `extra` symbols more than c has. With 1, the
-- term c stands inside each of them.
abbrev pub Inside : List Row → (ℕ → ℕ) → List Mark → ℕ → ℕ → Type 0
Inside rs f ms c extra = (v : ℕ → Tree) → Solves rs v → Respects (length rs) f v → (d : ℕ) → d < length rs → mark ms d ≡ Mark.Begun →
    size (v c) + extra ≤ size (v d)
