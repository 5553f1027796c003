-- The calls of a pair, by the calls of its sides. Assumes nothing.
use Rattle.std.proofs.Common.{◌≡◌, ℕ, ◌<◌, Bool, true, List, [], ◌∷◌, ◌++◌, length, take, Some, Decides, sym, refl, ap, ◌∙◌, subst, inl, inr, append-nil, arith}
use Rattle.logic.specs.Trees.{World}
use Rattle.logic.specs.Theories.{Theory, Forced, Clash, Freest, FreestAt}
use Rattle.logic.specs.Tellings.{Telling}
use Rattle.logic.specs.Answers.{Outcome, Refuses, Assumes, Kept}
use Rattle.logic.specs.Answers.Outcome.{refused, clash, taken}
use Rattle.logic.specs.declared.Equation.{Equation}
use Rattle.sides.specs.declared.Side.{Side}
use Rattle.sides.specs.declared.Side.TheVariants.{First, Second}
use Rattle.sides.specs.Sides.{pick, opposite, part_of, only, keep, share, joined}
use Rattle.sides.specs.Pairs.{paired, LawfulPair}
use Rattle.sides.specs.Tellings.{paired_telling}
use Rattle.sides.specs.Calls.{Asked, SentBack, Begun}
use Rattle.sides.proofs.Shares.{share_newest, share_short, share_take}
use Rattle.sides.proofs.Pairs.{never, has_part, part_forced, forced_part, part_clash, clash_part, freest_joined, same_paired}
use Rattle.sides.proofs.Tellings.{telling_paired}

-- what holds on the first and on the second side holds on each
pub each_side : (P : Side → Type 0) → P First → P Second → (s : Side) → P s
each_side P p q First = p
each_side P p q Second = q

-- a side and the other one are all
both_sides : (P : Side → Type 0) (s : Side) → P s → P (opposite s) → (k : Side) → P k
both_sides P First p q First = p
both_sides P First p q Second = q
both_sides P Second p q First = q
both_sides P Second p q Second = p

only_here : (s : Side) (d : Equation) → only s s d [] ≡ d ∷ []
only_here First d = refl
only_here Second d = refl

only_there : (s : Side) (d : Equation) → only (opposite s) s d [] ≡ []
only_there First d = refl
only_there Second d = refl

-- what both sides keep, the pair keeps
kept_paired : (ts us : Side → Theory) (ps qs : Side → Telling) (after : Side → Type 0) → ((k : Side) → Kept (ts k) (us k) (ps k) (qs k) (after k))
    → (new : Side → List Equation) (fs : List Equation) → ((k : Side) → new k ≡ share k fs) → Kept (paired ts) (paired us) (paired_telling ps) (paired_telling qs) (LawfulPair after new fs)
kept_paired ts us ps qs after kept new fs shares =
    record {
      lawful = record { each = λ k. (kept k).lawful; shares = shares };
      theory = same_paired ts us (λ k. (kept k).theory);
      telling = telling_paired ps qs (λ k. (kept k).telling);
    }

-- one side was asked, and nothing was done to the other
pub asked_of : (ts us : Side → Theory) (ps qs : Side → Telling) (after : Side → Type 0) (old new : Side → List Equation) (e : Equation) (o : Outcome) (s side : Side) → side ≡ s
    → Kept (ts s) (us s) (ps s) (qs s) (after s) → Kept (ts (opposite s)) (us (opposite s)) (ps (opposite s)) (qs (opposite s)) (after (opposite s))
    → Assumes (ts s) (old s) e o (new s) → new (opposite s) ≡ old (opposite s) → Asked ts us ps qs after old new side e o
asked_of ts us ps qs after old new e o s side is here there assumes other =
    subst (λ k. Asked ts us ps qs after old new k e o) (sym is)
    (record { kept = both_sides (λ k. Kept (ts k) (us k) (ps k) (qs k) (after k)) s here there; assumes = assumes; other = other })

-- where each side has its share of es
module _ (ts : Side → Theory) (old : Side → List Equation) (es : List Equation) (shares : (s : Side) → old s ≡ share s es) where
  -- freest worlds of the sides, joined
  pub told_free : (ws : Side → World) → ((s : Side) → FreestAt (ts s) (old s) (ws s)) → FreestAt (paired ts) es (joined ws)
  told_free ws free = freest_joined ts es ws (λ s. subst (λ l. FreestAt (ts s) l (ws s)) (shares s) (free s))

  module _ (freest : (s : Side) → Freest (ts s) (old s)) where
    free_share : (s : Side) → FreestAt (ts s) (share s es) (freest s).0
    free_share s = subst (λ l. FreestAt (ts s) l (freest s).0) (shares s) (freest s).1

    -- an equation that is the part d of the side s
    module _ (e : Equation) (s : Side) (d : Equation) (is : part_of e ≡ Some (s, d)) where
      forced_decided : (r : Bool) → Decides r (Forced (ts s) (old s) d) → Decides r (Forced (paired ts) es e)
      forced_decided r decides = (
        λ yes. part_forced ts e s d is es (subst (λ l. Forced (ts s) l d) (shares s) (decides.0 yes)),
        λ f. decides.1 (subst (λ l. Forced (ts s) l d) (sym (shares s)) (forced_part ts e s d is es (λ k. (freest k).0) free_share f)),
      )

      module _ (has : (ts s).has d ≡ true) (less : length es < 256) where
        -- the side does not refuse it
        refuses : (n : ℕ) → Refuses (ts s) (old s) d n → ⊥
        refuses n (inl x) = never (sym x.0 ∙ has)
        refuses n (inr x) = absurd (omega (arith, x.1, ap length (shares s), share_short s es))

        -- the side finds a clash, or takes it
        module _ (us : Side → Theory) (ps qs : Side → Telling) (after : Side → Type 0) (new : Side → List Equation) where
          clashes : Asked ts us ps qs after old new s d clash
              → Kept (paired ts) (paired us) (paired_telling ps) (paired_telling qs) (LawfulPair after new es) × Assumes (paired ts) es e clash es
          clashes asked = (
            kept_paired ts us ps qs after asked.kept new es (both_sides (λ k. new k ≡ share k es) s (asked.assumes.3 ∙ shares s) (asked.other ∙ shares (opposite s))),
            (has_part ts e s d is ∙ has, less, part_clash ts e s d is es (subst (λ l. Clash (ts s) l d) (shares s) asked.assumes.2), refl),
          )

          takes : Asked ts us ps qs after old new s d taken → (fs : List Equation) → fs ≡ es ++ (e ∷ [])
              → Kept (paired ts) (paired us) (paired_telling ps) (paired_telling qs) (LawfulPair after new fs) × Assumes (paired ts) es e taken fs
          takes asked fs grown =
              let grows : (k : Side) → share k fs ≡ share k es ++ only k s d []
              = λ k. ap (share k) grown ∙ share_newest k es e ∙ ap (λ o. share k es ++ keep k o []) is in
              let here : new s ≡ share s fs
              = asked.assumes.3 ∙ ap (λ l. l ++ (d ∷ [])) (shares s) ∙ ap (λ l. share s es ++ l) (sym (only_here s d)) ∙ sym (grows s) in
              let there : new (opposite s) ≡ share (opposite s) fs
              = asked.other ∙ shares (opposite s) ∙ sym (append-nil (share (opposite s) es)) ∙ ap (λ l. share (opposite s) es ++ l) (sym (only_there s d)) ∙ sym (grows (opposite s)) in (
                kept_paired ts us ps qs after asked.kept new fs (both_sides (λ k. new k ≡ share k fs) s here there),
                (
                  has_part ts e s d is ∙ has,
                  less,
                  λ c. asked.assumes.2 (subst (λ l. Clash (ts s) l d) (sym (shares s)) (clash_part ts e s d is es (λ k. (freest k).0) free_share c)),
                  grown,
                ),
              )

-- a pair in which es stand
module _ (ts : Side → Theory) (good : Side → Type 0) (old : Side → List Equation) (es : List Equation) (freest : (k : Side) → good k → Freest (ts k) (old k)) where
  freest_at : LawfulPair good old es → (k : Side) → Freest (ts k) (old k)
  freest_at l k = freest k (l.each k)

  pub pair_freest : LawfulPair good old es → Freest (paired ts) es
  pair_freest l = (joined (λ k. (freest_at l k).0), told_free ts old es l.shares (λ k. (freest_at l k).0) (λ k. (freest_at l k).1))

  -- an equation that is the part d of the side s
  module _ (e : Equation) (s : Side) (d : Equation) (is : Some (s, d) ≡ part_of e) where
    pub pair_forced : (r : Bool) → (good s → Decides r (Forced (ts s) (old s) d)) → LawfulPair good old es → Decides r (Forced (paired ts) es e)
    pair_forced r decides l = forced_decided ts old es l.shares (freest_at l) e s d (sym is) r (decides (l.each s))

    -- the side is asked to assume it, where it has it and there is room
    module _ (us : Side → Theory) (ps qs : Side → Telling) (after : Side → Type 0) (new : Side → List Equation)
        (has : good s → true ≡ (ts s).has d) (less : length es < 256) (o : Outcome) (asked : ((k : Side) → good k) → Asked ts us ps qs after old new s d o)
      where
        outcome : (x : Outcome) → o ≡ x → LawfulPair good old es → Asked ts us ps qs after old new s d x
        outcome x was l = subst (λ y. Asked ts us ps qs after old new s d y) was (asked l.each)

        pub pair_refuses : (n : ℕ) → o ≡ refused n → (x : Outcome) → LawfulPair good old es
            → Kept (paired ts) (paired us) (paired_telling ps) (paired_telling qs) (LawfulPair after new es) × Assumes (paired ts) es e x es
        pair_refuses n was x l = absurd (refuses ts old es l.shares (freest_at l) e s d (sym is) (sym (has (l.each s))) less n (outcome (refused n) was l).assumes.0)

        pub pair_clashes : o ≡ clash → LawfulPair good old es → Kept (paired ts) (paired us) (paired_telling ps) (paired_telling qs) (LawfulPair after new es) × Assumes (paired ts) es e o es
        pair_clashes was l =
            let both = clashes ts old es l.shares (freest_at l) e s d (sym is) (sym (has (l.each s))) less us ps qs after new (outcome clash was l) in
            (both.0, subst (λ x. Assumes (paired ts) es e x es) (sym was) both.1)

        pub pair_takes : o ≡ taken → (fs : List Equation) → fs ≡ es ++ (e ∷ []) → LawfulPair good old es
            → Kept (paired ts) (paired us) (paired_telling ps) (paired_telling qs) (LawfulPair after new fs) × Assumes (paired ts) es e o fs
        pair_takes was fs grown l =
            let both = takes ts old es l.shares (freest_at l) e s d (sym is) (sym (has (l.each s))) less us ps qs after new (outcome taken was l) fs grown in
            (both.0, subst (λ x. Assumes (paired ts) es e x fs) (sym was) both.1)

-- the sides are sent back, each to its share of the oldest n, or to nothing
module _ (ts us : Side → Theory) (ps qs : Side → Telling) (after : Side → Type 0) (old new : Side → List Equation) where
  pub pair_back : (good : Side → Type 0) (es : List Equation) (n : ℕ) (fs : List Equation) → fs ≡ take n es → (ns : Side → ℕ) → ((k : Side) → ns k ≡ length (share k fs))
      → (((k : Side) → good k) → SentBack ts us ps qs after old new ns) → LawfulPair good old es → Kept (paired ts) (paired us) (paired_telling ps) (paired_telling qs) (LawfulPair after new fs)
  pair_back good es n fs cut ns counted sent l =
      let went = sent l.each in
      kept_paired ts us ps qs after went.kept new fs
      (λ k. went.oldest k ∙ ap (λ m. take m (old k)) (counted k) ∙ ap (take (length (share k fs))) (l.shares k) ∙ ap (λ x. take (length (share k x)) (share k es)) cut
      ∙ sym (share_take k n es) ∙ ap (share k) (sym cut))

  pub pair_begun : (es : List Equation) → es ≡ [] → SentBack ts us ps qs after old new (pick 0 0)
      → Begun (paired ts) (paired us) (paired_telling ps) (paired_telling qs) (LawfulPair after new es) es
  pair_begun es none sent =
      record {
        kept = kept_paired ts us ps qs after sent.kept new es
            (each_side (λ k. new k ≡ share k es) (sent.oldest First ∙ ap (share First) (sym none)) (sent.oldest Second ∙ ap (share Second) (sym none)));
        nothing = none;
      }
