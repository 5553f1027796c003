-- The theory of tags, and what is told of each. Assumes nothing.
use Rattle.std.specs.Prelude.{◌≡◌, ℕ, ◌<◌, ◌≤◌, ◌&&◌, List, nat_lt}
use Rattle.logic.specs.Theories.{Theory, Forced}
use Rattle.logic.specs.Tellings.{Told, Telling}
use Rattle.logic.specs.Tellings.Told.{told, refused}
use Rattle.logic.specs.declared.Equation.{Equation}
use Rattle.groups.specs.Groups.{GroupNumber}

-- The equation (a, b), which says that the tags a and b agree.
abbrev pub agree : ℕ → ℕ → Equation
agree a b = record { left = a; right = b }

-- The tags are 0 to 1,023, and every pair of them is an equation. Every world is own. An equation is true where both
-- trees agree.
abbrev pub tags : Theory
tags = record {
  has = λ e. nat_lt e.left 1024 && nat_lt e.right 1024;
  own = λ w. Unit {0};
  holds = λ w e. w.tree e.left ≡ w.tree e.right;
}

-- The number is a tag.
abbrev pub Tag : ℕ → Type 0
Tag n = n < 1024

-- Where es stand, the tags a and b are forced equal.
abbrev pub ForcedEqual : List Equation → ℕ → ℕ → Type 0
ForcedEqual es a b = Forced tags es (agree a b)

-- What is told of the number n where es stand: of a tag in the i-th group of forced-equal tags, counted from 1 by lowest
-- member, the tower of height i; and refusal 17 for a number that is no tag.
abbrev pub TagTold : List Equation → ℕ → Told → Type 0
TagTold es n (told kind i) = Tag n × (kind ≡ 0) × GroupNumber Tag (ForcedEqual es) n i
TagTold es n (refused number) = (1024 ≤ n) × (number ≡ 17)

-- The place of a tag is its number.
abbrev pub tag_telling : Telling
tag_telling = record { place = λ n. n; value = λ w n. w.tree n; answer = TagTold }
