-- What two tellings side by side tell. Assumes nothing.
use Rattle.std.specs.Prelude.{◌≡◌, ℕ, zero, suc, ◌/◌, cond, List, nat_le}
use Rattle.logic.specs.Tellings.{Told, Telling}
use Rattle.logic.specs.Tellings.Told.{told, refused}
use Rattle.logic.specs.declared.Equation.{Equation}
use Rattle.sides.specs.declared.Side.{Side}
use Rattle.sides.specs.Sides.{side_at, doubled, share, world_of}

-- How a side's answer is passed on: the height of a tower as it is, the number of a term doubled, or refusal 17 where
-- that passes 65,535, and a refusal as it is. There is no other kind.
abbrev pub passed_on : Side → Told → Told
passed_on s (told zero h) = told 0 h
passed_on s (told (suc zero) t) = cond (nat_le (doubled s t) 65535) (told 1 (doubled s t)) (refused 17)
passed_on s (told (suc (suc k)) m) = told (suc (suc k)) m
passed_on s (refused k) = refused k

-- What is told of the number n where es stand: what its side tells of the half of n, passed on.
abbrev pub PairTold : (Side → Telling) → List Equation → ℕ → Told → Type 0
PairTold ps es n a = (b : Told) × (ps (side_at n)).answer (share (side_at n) es) (n / 2) b × (a ≡ passed_on (side_at n) b)

-- The telling of two side by side: numbers, places and terms of a side are doubled.
abbrev pub paired_telling : (Side → Telling) → Telling
paired_telling ps = record {
  place = λ n. doubled (side_at n) ((ps (side_at n)).place (n / 2));
  value = λ w m. (ps (side_at m)).value (world_of (side_at m) w) (m / 2);
  answer = PairTold ps;
}
