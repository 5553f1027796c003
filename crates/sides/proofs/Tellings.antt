-- What is told side by side is one thing, and it names what the joined world has there. Assumes nothing.
use Rattle.std.proofs.Common.{◌≡◌, ℕ, zero, suc, ◌/◌, Bool, true, false, cond, leb, List, sym, ap, ◌∙◌, subst, arith}
use Rattle.logic.specs.Trees.{Tree, World}
use Rattle.logic.specs.Tellings.{Told, Telling, SameTelling, Names}
use Rattle.logic.specs.Tellings.Told.{told, refused}
use Rattle.logic.specs.declared.Equation.{Equation}
use Rattle.sides.specs.declared.Side.{Side}
use Rattle.sides.specs.Sides.{side_at, doubled, share, world_of, joined}
use Rattle.sides.specs.Tellings.{passed_on, PairTold, paired_telling}
use Rattle.sides.proofs.Worlds.{side_doubled, half_doubled, world_joined}

-- tellings that agree side by side
pub telling_paired : (ps qs : Side → Telling) → ((s : Side) → SameTelling (qs s) (ps s)) → SameTelling (paired_telling qs) (paired_telling ps)
telling_paired ps qs same =
    record {
      place = λ n. ap (doubled (side_at n)) ((same (side_at n)).place (n / 2));
      value = λ w m. (same (side_at m)).value (world_of (side_at m) w) (m / 2);
      answer = λ es n a. (
        λ x. (x.0, ((same (side_at n)).answer (share (side_at n) es) (n / 2) x.0).0 x.1, x.2),
        λ x. (x.0, ((same (side_at n)).answer (share (side_at n) es) (n / 2) x.0).1 x.1, x.2),
      );
    }

-- where each side has its share of the standing equations
module _ (ps : Side → Telling) (stands : Side → List Equation) (es : List Equation) (shares : (s : Side) → stands s ≡ share s es) where
  side_told : (n : ℕ) (a : Told) (x : PairTold ps es n a) → (ps (side_at n)).answer (stands (side_at n)) (n / 2) x.0
  side_told n a x = subst (λ l. (ps (side_at n)).answer l (n / 2) x.0) (sym (shares (side_at n))) x.1

  -- of a number one thing is told
  pub pair_single : ((s : Side) (n : ℕ) (a b : Told) → (ps s).answer (stands s) n a → (ps s).answer (stands s) n b → a ≡ b) → (n : ℕ) (a b : Told) → PairTold ps es n a → PairTold ps es n b → a ≡ b
  pair_single single n a b x y = x.2 ∙ ap (passed_on (side_at n)) (single (side_at n) (n / 2) x.0 y.0 (side_told n a x) (side_told n b y)) ∙ sym y.2

  -- the one refusal is 17
  refusal_term : (s : Side) (t k : ℕ) (small : Bool) → refused k ≡ cond small (told 1 (doubled s t)) (refused 17) → k ≡ 17
  refusal_term s t k true e = let z : ◌≡◌ {A = ℕ} 0 1 = cc in absurd (omega arith)
  refusal_term s t k false e = cc

  refusal_passed : (s : Side) (b : Told) (k : ℕ) → ((j : ℕ) → b ≡ refused j → j ≡ 17) → refused k ≡ passed_on s b → k ≡ 17
  refusal_passed s (told zero h) k known e = let z : ◌≡◌ {A = ℕ} 0 1 = cc in absurd (omega arith)
  refusal_passed s (told (suc zero) t) k known e = refusal_term s t k (leb (doubled s t) 65535) e
  refusal_passed s (told (suc (suc i)) m) k known e = let z : ◌≡◌ {A = ℕ} 0 1 = cc in absurd (omega arith)
  refusal_passed s (refused j) k known e = known k (sym e)

  pub pair_refusal : ((s : Side) (n k : ℕ) → (ps s).answer (stands s) n (refused k) → k ≡ 17) → (n k : ℕ) → PairTold ps es n (refused k) → k ≡ 17
  pair_refusal refusal n k x =
      refusal_passed (side_at n) x.0 k
      (λ j is. refusal (side_at n) (n / 2) j (subst (λ b. (ps (side_at n)).answer (stands (side_at n)) (n / 2) b) is (side_told n (refused k) x))) x.2

  -- what is told names the tree at the number's place
  module _ (ws : Side → World) where
    value_doubled : (s : Side) (t : ℕ) → (paired_telling ps).value (joined ws) (doubled s t) ≡ (ps s).value (ws s) t
    value_doubled s t =
        ap (λ k. (ps k).value (world_of k (joined ws)) (doubled s t / 2)) (side_doubled s t)
        ∙ ap (λ m. (ps s).value (world_of s (joined ws)) m) (half_doubled s t)
        ∙ ap (λ w. (ps s).value w t) (world_joined ws s)

    named_term : (s : Side) (t : ℕ) (x : Tree) (small : Bool) → x ≡ (ps s).value (ws s) t → Names (paired_telling ps) (joined ws) (cond small (told 1 (doubled s t)) (refused 17)) x
    named_term s t x true h = h ∙ sym (value_doubled s t)
    named_term s t x false h = tt

    named_passed : (s : Side) (b : Told) (x : Tree) → Names (ps s) (ws s) b x → Names (paired_telling ps) (joined ws) (passed_on s b) x
    named_passed s (told zero h) x names = names
    named_passed s (told (suc zero) t) x names = named_term s t x (leb (doubled s t) 65535) names
    named_passed s (told (suc (suc k)) m) x names = absurd names
    named_passed s (refused k) x names = tt

    at_place : (s : Side) (m : ℕ) (a b : Told) → a ≡ passed_on s b → Names (ps s) (ws s) b ((ws s).tree m) → Names (paired_telling ps) (joined ws) a ((joined ws).tree (doubled s m))
    at_place s m a b is names =
        subst (λ c. Names (paired_telling ps) (joined ws) c ((joined ws).tree (doubled s m))) (sym is)
        (subst (λ x. Names (paired_telling ps) (joined ws) (passed_on s b) x) (sym (ap (λ w. w.tree m) (world_joined ws s))) (named_passed s b ((ws s).tree m) names))

    pub pair_named : ((s : Side) (n : ℕ) (b : Told) → (ps s).answer (stands s) n b → Names (ps s) (ws s) b ((ws s).tree ((ps s).place n)))
        → (n : ℕ) (a : Told) → PairTold ps es n a → Names (paired_telling ps) (joined ws) a ((joined ws).tree ((paired_telling ps).place n))
    pair_named named n a x = at_place (side_at n) ((ps (side_at n)).place (n / 2)) a x.0 x.2 (named (side_at n) (n / 2) x.0 (side_told n a x))
