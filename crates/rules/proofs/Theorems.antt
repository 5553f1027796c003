-- The laws of the walk. Assumes nothing.
use mathlib.Core.Path.{◌≡◌, refl, sym, subst}
use mathlib.Core.List.{List, []}
use Prim.Native.Nat.{ℕ, ◌+◌, ◌<◌, ◌≤◌}
use native.Mathlib.Omega.{arith}
use Rattle.logic.specs.Theories.{Theory}
use Rattle.rules.specs.declared.Literal.{Literal}
use Rattle.rules.specs.Rules.{HadAll, product}
use Rattle.rules.specs.Walks.{End, Walk}
use Rattle.rules.specs.Walks.End.{found, dead, spent}
use Rattle.rules.specs.Laws.{DeadLaw, FoundLaw, TrialsLaw, OneLaw, BudgetLaw, SpentLaw, Laws}
use Rattle.rules.proofs.Sound.{dead_walk, settled_walk, met_all, found≢spent, dead≢spent}
use Rattle.rules.proofs.Fixed.{one_walk, other_walk}
use Rattle.rules.specs.Marks.{unused_product, unused}
use Rattle.rules.proofs.Counts.{used_nil, product_none, unused_none, Counted, count_walk}

pub whole_walk : (t : Theory) (R : List (List Literal)) (b m : ℕ) (o : End) → HadAll t R → Walk t R b [] 0 m o
    → Counted 1 b 0 m o (unused_product [] R) (0 + unused [] R)
whole_walk t R b m o had w = count_walk t R b had w [] (used_nil t [] R) (omega arith)

dead_law : (t : Theory) → DeadLaw t
dead_law t R b m v w own met = dead_walk t w R b own met v refl tt

found_law : (t : Theory) → FoundLaw t
found_law t R b m C had v f =
    record {
      few = omega (arith, (whole_walk t R b m (found C) had v).few, unused_none R);
      world = f.0;
      own = f.1.own;
      choices = f.1.all;
      meets = met_all t C f.0 f.1 R had (settled_walk t R b v C refl);
      exactly = λ e has. (λ h. (f.1.free e has h).1, λ all. all f.0 f.1.own f.1.all);
    }

spent_by : (t : Theory) (R : List (List Literal)) (b m : ℕ) (o : End) → HadAll t R → Walk t R b [] 0 m o → o ≡ spent → b + 1 < product R
spent_by t R b m o had v e =
    let P : End → Type 0 = λ x. Walk t R b [] 0 m x in
    let c = whole_walk t R b m spent had (subst P e v) in
    omega (arith, c.trials, c.at_end, product_none R)

trials_law : (t : Theory) → TrialsLaw t
trials_law t R b m o had v =
    let c = whole_walk t R b m o had v in
    (omega (arith, c.trials, product_none R), c.within, spent_by t R b m o had v)

one_law : (t : Theory) → OneLaw t
one_law t R b m m' o o' w v = one_walk t R b w m' o' v

-- at a budget below the trials of a walk that is not spent, the walk is spent
module _ (t : Theory) (R : List (List Literal)) (b c m m' : ℕ) (o : End) (had : HadAll t R) (w : Walk t R b [] 0 m o) (f : o ≡ spent → ⊥) (h : c < m) where
  late : (x : End) → (x ≡ spent → ⊥) → Walk t R c [] 0 m' x → ⊥
  late x g z =
      let k = (whole_walk t R c m' x had z).within in
      let j = (whole_walk t R b m o had w).within in
      let e = (one_walk t R b w m' x (other_walk t R c b z g (omega arith))).0 in
      omega arith

  cut_short : (x : End) → Walk t R c [] 0 m' x → (m' ≡ c) × (x ≡ spent)
  cut_short (found C) z = absurd (late (found C) (found≢spent C) z)
  cut_short dead z = absurd (late dead dead≢spent z)
  cut_short spent z = ((whole_walk t R c m' spent had z).at_end, refl)

budget_law : (t : Theory) → BudgetLaw t
budget_law t R b c m m' o o' had w f v =
    (λ h. let same = one_walk t R c (other_walk t R b c w f h) m' o' v in (sym same.0, sym same.1), λ h. cut_short t R b c m m' o had w f h o' v)

-- a walk that ends within c ends so within any larger budget, so it can't be spent there
unspent : (t : Theory) (R : List (List Literal)) (b c m m' : ℕ) (x : End) → HadAll t R → Walk t R b [] 0 m spent → c ≤ b → (x ≡ spent → ⊥) → Walk t R c [] 0 m' x → ⊥
unspent t R b c m m' x had w h g z =
    let k = (whole_walk t R c m' x had z).within in
    g (sym (one_walk t R b w m' x (other_walk t R c b z g (omega arith))).1)

spent_law : (t : Theory) → SpentLaw t
spent_law t R b c m m' (found C) had w h z = absurd (unspent t R b c m m' (found C) had w h (found≢spent C) z)
spent_law t R b c m m' dead had w h z = absurd (unspent t R b c m m' dead had w h dead≢spent z)
spent_law t R b c m m' spent had w h z = ((whole_walk t R c m' spent had z).at_end, refl)

pub laws : (t : Theory) → Laws t
laws t =
    record { dead = dead_law t; found = found_law t; trials = trials_law t; one = one_law t; budgets = budget_law t; spent = spent_law t }
