-- From two terms brought together to the classes of forced-equal terms. Assumes nothing.
use Rattle.std.specs.Prelude.{◌≡◌, ℕ, ◌<◌, ◌≤◌, ◌↔◌, List, length, ◌≢◌}
use Rattle.logic.specs.Trees.{Tree}
use Rattle.terms.specs.Sheets.{Row}
use Rattle.terms.specs.Values.{Solves}
use Rattle.classes.specs.Classes.{Respects, Closed, class, Lowest, Heads}
use Rattle.unify.specs.declared.Mark.{Mark}
use Rattle.unify.specs.Merging.{Coarser, Tops}
use Rattle.unify.specs.Visits.{mark, number, Numbered, Visited}

-- The table ts with the heads ks comes from the classes f by bringing l and r together: compound terms of one class have one
-- symbol over arguments of one class, and the trees that fit the classes f and make l and r one fit these.
pub record Unified (rs : List Row) (f : ℕ → ℕ) (l r : ℕ) (ts ks : List ℕ) : Type 0 where
  pub lowest : Lowest (length rs) ts
  pub tops : Tops rs (class ts) ks
  pub coarser : Coarser (length rs) f (class ts)
  pub closed : Closed rs (class ts) (class ts)
  pub meets : class ts l ≡ class ts r
  pub sound : (v : ℕ → Tree) → Solves rs v → Respects (length rs) f v → v l ≡ v r → Respects (length rs) (class ts) v

-- The table ls has classes of terms with their heads hs, and compound terms of one class have one symbol over arguments of one
-- class: what is wanted of a table to bring two terms together in it.
pub record Tabled (rs : List Row) (ls hs : List ℕ) : Type 0 where
  pub lowest : Lowest (length rs) ls
  pub heads : Heads rs ls hs
  pub closed : Closed rs (class ls) (class ls)

-- No trees fit the classes f and make l and r one.
abbrev pub Refuted : List Row → (ℕ → ℕ) → ℕ → ℕ → Type 0
Refuted rs f l r = (v : ℕ → Tree) → Solves rs v → Respects (length rs) f v → v l ≢ v r

-- Each class below n has got its number, and there are no more rows than terms.
pub record AllVisited (rs : List Row) (ts ks : List ℕ) (ms : List Mark) (Q : List Row) (n : ℕ) : Type 0 where
  pub visited : Visited rs (class ts) ks ms Q
  pub count : length Q ≤ length rs
  pub all : (c : ℕ) → c < n → class ts c ≡ c → Numbered ms c

-- The number of a term: that of its class.
abbrev pub number_of : List ℕ → List Mark → ℕ → ℕ
number_of ts ms a = number (mark ms (class ts a))

-- The table ls has the lowest term of each number: terms are of one class where g gives them one number.
pub record Lows (N : ℕ) (g : ℕ → ℕ) (ls : List ℕ) : Type 0 where
  pub lowest : Lowest N ls
  pub same : (a b : ℕ) → a < N → b < N → (class ls a ≡ class ls b) ↔ (g a ≡ g b)
