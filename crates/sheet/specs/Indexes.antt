-- Numbers in buckets, and an index that has the latest of each bucket. Assumes nothing.
use Rattle.std.specs.Prelude.{◌≡◌, ℕ, ◌+◌, ◌*◌, ◌%◌, ◌<◌, List, length, Some, None, fold, Option, slice_index_or}
use Rattle.terms.specs.Sheets.{Row}

-- The bucket of a row: the symbol and the arguments of a compound term choose one of 2,039, and a name is in none.
abbrev pub bucket : Row → Option ℕ
bucket Row.name = None
bucket (Row.over s xs) = Some (fold (λ h x. (h * 1583 + x) % 2039) s xs)

-- Where the numbers have the buckets bs, the number n is in the bucket b.
abbrev pub In : List (Option ℕ) → ℕ → ℕ → Type 0
In bs b n = slice_index_or bs n None ≡ Some b

-- The highest number below k with the property P, or that there is none.
abbrev pub Latest : (ℕ → Type 0) → ℕ → Option ℕ → Type 0
Latest P k None = (j : ℕ) → j < k → P j → ⊥
Latest P k (Some n) = (n < k) × P n × ((j : ℕ) → n < j → j < k → P j → ⊥)

-- The index of numbers that have the buckets bs: for each bucket the latest number in it, and for each number in a bucket
-- the latest before it in that bucket.
pub record Indexed (bs : List (Option ℕ)) (latest earlier : List (Option ℕ)) : Type 0 where
  pub long : length earlier ≡ length bs
  pub last : (b : ℕ) → b < 2039 → Latest (In bs b) (length bs) (slice_index_or latest b None)
  pub before : (n b : ℕ) → n < length bs → In bs b n → Latest (In bs b) n (slice_index_or earlier n None)
