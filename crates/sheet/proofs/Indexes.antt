-- Indexes as numbers are put into buckets. Assumes nothing.
use Rattle.std.proofs.Common.{◌≡◌, ℕ, ◌+◌, ◌<◌, ◌≤◌, List, [], ◌∷◌, ◌++◌, length, get_or, set, replicate, Some, None, Option, sym, refl, ap, ◌∙◌, subst, subst₂, inl, inr, arith}
use mathlib.Core.HLevel.{Discrete, hedberg, Π_prop, ×₃_prop, ⊥_prop}
use mathlib.Core.Logic.{∥∥₁_elim}
use native.Mathlib.Bridge.{le_prop}
use native.Mathlib.Decide.{ℕ_discrete}
use Rattle.std.proofs.lemmas.List.{get_or_append_left, get_or_push, get_or-replicate, get_or-set_same, get_or-set_other, length_push}
use Rattle.std.proofs.lemmas.Bool.{cases_eq}
use Rattle.sheet.specs.Indexes.{In, Latest, Indexed}
use Rattle.sheet.proofs.Sheets.{place}

-- below k the one property may take the place of the other
latest_moved : (P Q : ℕ → Type 0) (k : ℕ) → ((j : ℕ) → j < k → P j → Q j) → ((j : ℕ) → j < k → Q j → P j) → (o : Option ℕ) → Latest P k o → Latest Q k o
latest_moved P Q k to back None l = λ j h q. l j h (back j h q)
latest_moved P Q k to back (Some n) l = (l.0, to n l.0 l.1, λ j a h q. l.2 j a h (back j h q))

-- a number that lacks the property changes nothing
latest_more : (P : ℕ → Type 0) (k : ℕ) → (P k → ⊥) → (o : Option ℕ) → Latest P k o → Latest P (k + 1) o
latest_more P k lacks None l = λ j h p. elim (cases_eq j k) [ inl same ↦ lacks (subst P same p) | inr other ↦ l j (omega arith) p ]
latest_more P k lacks (Some n) l = (
  omega (arith, l.0),
  l.1,
  λ j a h p. elim (cases_eq j k) [ inl same ↦ lacks (subst P same p) | inr other ↦ l.2 j a (omega arith) p ],
)

none_some : (a : ℕ) → None ≡ Some a → ⊥
none_some a is = cc

module _ (bs : List (Option ℕ)) (o : Option ℕ) where
  -- an older number keeps its bucket, and the newest has o
  kept : (j : ℕ) → j < length bs → get_or (bs ++ (o ∷ [])) j None ≡ get_or bs j None
  kept j h = get_or_append_left bs (o ∷ []) None j h

  newest : get_or (bs ++ (o ∷ [])) (length bs) None ≡ o
  newest = get_or_push bs o None (length bs) refl

  latest_kept : (a k : ℕ) → k ≤ length bs → (p : Option ℕ) → Latest (In bs a) k p → Latest (In (bs ++ (o ∷ [])) a) k p
  latest_kept a k h =
      latest_moved (In bs a) (In (bs ++ (o ∷ [])) a) k (λ j i is. kept j (omega arith) ∙ is) (λ j i is. sym (kept j (omega arith)) ∙ is)

  -- in any other bucket the latest stays
  latest_other : (a : ℕ) → (o ≡ Some a → ⊥) → (p : Option ℕ) → Latest (In bs a) (length bs) p → Latest (In (bs ++ (o ∷ [])) a) (length bs + 1) p
  latest_other a other p l =
      latest_more (In (bs ++ (o ∷ [])) a) (length bs) (λ is. other (sym newest ∙ is)) p (latest_kept a (length bs) (omega arith) p l)

  -- the index after it, where p is the latest number before it in its bucket, and new has the latest of each
  indexed_push : (latest earlier new : List (Option ℕ)) (p : Option ℕ) → ((a : ℕ) → o ≡ Some a → Latest (In bs a) (length bs) p)
      → ((a : ℕ) → a < 2039 → Latest (In (bs ++ (o ∷ [])) a) (length bs + 1) (get_or new a None))
      → Indexed bs latest earlier → Indexed (bs ++ (o ∷ [])) new (earlier ++ (p ∷ []))
  indexed_push latest earlier new p here last x =
      record {
        long = length_push earlier p ∙ ap (λ (k : ℕ). k + 1) x.long ∙ sym (length_push bs o);
        last = λ a h. subst (λ (k : ℕ). Latest (In (bs ++ (o ∷ [])) a) k (get_or new a None)) (sym (length_push bs o)) (last a h);
        before = λ n a h is. elim (place bs o n h) [
          | inl old ↦
              subst (λ (q : Option ℕ). Latest (In (bs ++ (o ∷ [])) a) n q) (sym (get_or_append_left earlier (p ∷ []) None n (omega (arith, x.long))))
              (latest_kept a n (omega arith) (get_or earlier n None) (x.before n a old (sym (kept n old) ∙ is)))
          | inr new ↦
              subst₂ (λ (k : ℕ) (q : Option ℕ). Latest (In (bs ++ (o ∷ [])) a) k q) new (sym (get_or_push earlier p None n (x.long ∙ new)))
              (latest_kept a (length bs) (omega arith) p (here a (sym (get_or_push bs o None n new) ∙ is)))
        ];
      }

-- one number more, in a bucket
pub indexed_in : (bs : List (Option ℕ)) (b : ℕ) (latest earlier : List (Option ℕ)) → b < 2039 → length latest ≡ 2039 → Indexed bs latest earlier
    → Indexed (bs ++ (Some b ∷ [])) (set latest b (Some (length bs))) (earlier ++ (get_or latest b None ∷ []))
indexed_in bs b latest earlier within wide x =
    let cs = bs ++ (Some b ∷ []) in
    let new = set latest b (Some (length bs)) in
    let p = get_or latest b None in
    indexed_push bs (Some b) latest earlier new p (λ a is. let same : b ≡ a = cc in subst (λ (k : ℕ). Latest (In bs k) (length bs) p) same (x.last b within))
    (λ a h. elim (cases_eq a b) [
      | inl same ↦
          subst (λ (q : Option ℕ). Latest (In cs a) (length bs + 1) q)
          (sym (ap (λ (v : ℕ). get_or new v None) same ∙ get_or-set_same latest b (Some (length bs)) None (omega arith)))
          (omega arith, newest bs (Some b) ∙ ap Some (sym same), λ j i k is. absurd (omega arith))
      | inr other ↦
          subst (λ (q : Option ℕ). Latest (In cs a) (length bs + 1) q) (sym (get_or-set_other latest b a (Some (length bs)) None other))
          (latest_other bs (Some b) a (λ is. let same : a ≡ b = cc in other same) (get_or latest a None) (x.last a h))
    ])
    x

-- one number more, in none
pub indexed_out : (bs latest earlier : List (Option ℕ)) → Indexed bs latest earlier → Indexed (bs ++ (None ∷ [])) latest (earlier ++ (None ∷ []))
indexed_out bs latest earlier x =
    indexed_push bs None latest earlier latest None (λ a is. absurd (none_some a is)) (λ a h. latest_other bs None a (none_some a) (get_or latest a None) (x.last a h)) x

-- the index of no number
pub indexed_none : Indexed [] (replicate 2039 None) []
indexed_none =
    record {
      long = refl;
      last = λ b h. subst (λ (o : Option ℕ). Latest (In [] b) 0 o) (sym (get_or-replicate 2039 b None None h)) (λ j k is. absurd (omega arith));
      before = λ n b h. absurd (omega arith);
    }

bucket_known : {a b : ℕ} → Dec (a ≡ b) → Dec (Some a ≡ Some b)
bucket_known (yes e) = yes (ap Some e)
bucket_known (no n) = no (λ e. n (cc))

bucket_discrete : Discrete (Option ℕ)
bucket_discrete None None = yes refl
bucket_discrete None (Some b) = no (none_some b)
bucket_discrete (Some a) None = no (λ e. none_some a (sym e))
bucket_discrete (Some a) (Some b) = bucket_known (ℕ_discrete a b)

-- that something is an index holds in one way only
latest_prop : (bs : List (Option ℕ)) (b k : ℕ) (o : Option ℕ) (x y : Latest (In bs b) k o) → x ≡ y
latest_prop bs b k None = Π_prop (λ j. Π_prop (λ h. Π_prop (λ is. ⊥_prop)))
latest_prop bs b k (Some n) = ×₃_prop le_prop (hedberg bucket_discrete (get_or bs n None) (Some b)) (Π_prop (λ j. Π_prop (λ h. Π_prop (λ i. Π_prop (λ is. ⊥_prop)))))

pub indexed_plain : (bs latest earlier : List (Option ℕ)) → ∥ Indexed bs latest earlier ∥₁ → Indexed bs latest earlier
indexed_plain bs latest earlier x =
    record {
      long = ∥∥₁_elim x (hedberg ℕ_discrete (length earlier) (length bs)) (λ y. y.long);
      last = λ b h. ∥∥₁_elim x (latest_prop bs b (length bs) (get_or latest b None)) (λ y. y.last b h);
      before = λ n b h is. ∥∥₁_elim x (latest_prop bs b n (get_or earlier n None)) (λ y. y.before n b h is);
    }
