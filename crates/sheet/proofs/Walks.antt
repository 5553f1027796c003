-- The walk along a bucket, latest number first, for a row. Assumes nothing.
use Rattle.std.proofs.Common.{◌≡◌, ℕ, suc, ◌<◌, List, map, length, get_or, Some, None, Option, sym, ap, ◌∙◌, inl, inr, arith}
use Rattle.std.proofs.lemmas.List.{get_or-map, length-map}
use Rattle.std.proofs.lemmas.Bool.{cases_lt, cases_eq}
use Rattle.terms.specs.Sheets.{Row, row}
use Rattle.sheet.specs.Rows.{Absent}
use Rattle.sheet.specs.Indexes.{bucket, In, Latest}

-- The walk for r has come to this number: it is in r's bucket, and no later row is r. At its end no row is.
abbrev pub Walked : List Row → Row → Option ℕ → Type 0
Walked rs r None = Absent rs r
Walked rs r (Some n) = (n < length rs) × (bucket (row rs n) ≡ bucket r) × ((j : ℕ) → n < j → j < length rs → row rs j ≡ r → ⊥)

-- How far there is to go.
abbrev pub ahead : Option ℕ → ℕ
ahead None = 0
ahead (Some n) = suc n

-- where r is in the bucket b
module _ (rs : List Row) (r : Row) (b : ℕ) (bucketed : bucket r ≡ Some b) where
  bucket_at : (j : ℕ) → j < length rs → get_or (map bucket rs) j None ≡ bucket (row rs j)
  bucket_at j h = get_or-map bucket rs j Row.name None h

  -- a number is in b where its row has r's bucket
  pub in_bucket : (j : ℕ) → j < length rs → bucket (row rs j) ≡ bucket r → In (map bucket rs) b j
  in_bucket j h same = bucket_at j h ∙ same ∙ bucketed

  has_bucket : (j : ℕ) → j < length rs → In (map bucket rs) b j → bucket (row rs j) ≡ bucket r
  has_bucket j h is = sym (bucket_at j h) ∙ is ∙ sym bucketed

  pub walked_start : (o : Option ℕ) → Latest (In (map bucket rs) b) (length (map bucket rs)) o → Walked rs r o
  walked_start None l = λ n h is. l n (omega (arith, length-map rs bucket)) (in_bucket n h (ap bucket is))
  walked_start (Some n) l =
      let h : n < length rs = omega (arith, length-map rs bucket, l.0) in
      (h, has_bucket n h l.1, λ j a i is. l.2 j a (omega (arith, length-map rs bucket)) (in_bucket j i (ap bucket is)))

  -- a row that is r is in the bucket, so it is not between n and the latest number before n there
  module _ (n : ℕ) (w : Walked rs r (Some n)) (other : row rs n ≡ r → ⊥) where
    later : (j : ℕ) → n < suc j → j < length rs → row rs j ≡ r → ⊥
    later j a h is = elim (cases_eq j n) [ inl same ↦ other (ap (row rs) (sym same) ∙ is) | inr apart ↦ w.2 j (omega arith) h is ]

    pub walked_step : (o : Option ℕ) → Latest (In (map bucket rs) b) n o → Walked rs r o
    walked_step None l = λ j h is. elim (cases_lt j n) [ inl low ↦ l j low (in_bucket j h (ap bucket is)) | inr high ↦ later j (omega arith) h is ]
    walked_step (Some m) l =
        let h : m < length rs = omega (arith, w.0, l.0) in (
          h,
          has_bucket m h l.1,
          λ j a i is. elim (cases_lt j n) [ inl low ↦ l.2 j a low (in_bucket j i (ap bucket is)) | inr high ↦ later j (omega arith) i is ],
        )

-- a step along the bucket
pub ahead_falls : (P : ℕ → Type 0) (n : ℕ) (o : Option ℕ) → Latest P n o → ahead o < suc n
ahead_falls P n None l = omega arith
ahead_falls P n (Some m) l = omega (arith, l.0)
