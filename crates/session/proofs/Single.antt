-- A call has one answer, and calls have one run. Assumes nothing.
use Rattle.std.proofs.Common.{◌≡◌, ℕ, List, [], ◌∷◌, ◌++◌, length, get_or, take, Some, None, sym, refl, ap, ◌∙◌, subst, ap₂, inl, inr, arith, length-append}
use Rattle.logic.specs.Theories.{Theory}
use Rattle.logic.specs.declared.Equation.{Equation}
use Rattle.rules.specs.declared.Literal.{Literal}
use Rattle.rules.specs.Walks.{End, Walk}
use Rattle.rules.specs.Walks.End.{found, dead, spent}
use Rattle.rules.proofs.Theorems.{laws}
use Rattle.walk.specs.declared.Word.{Word}
use Rattle.walk.specs.declared.Word.TheVariants as W
use Rattle.session.specs.Calls.{Asking, Answer}
use Rattle.session.specs.Calls.Asking.{post, opens, closes, ask, choice}
use Rattle.session.specs.Calls.Answer.{granted, refused, answered, chosen}
use Rattle.session.specs.Steps.{State, state, PostRefused, ChoiceRefused, Answers, Step}
use Rattle.session.specs.Runs.{Run}
use Rattle.session.specs.Runs.Run.{begin, next}

-- a list is its front and its last in one way
snoc_none : {A : Type 0} (xs : List A) (x : A) → [] ≡ xs ++ (x ∷ []) → ⊥
snoc_none xs x e = omega (arith, ap length e, length-append xs (x ∷ []))

pub snoc_same : {A : Type 0} (xs ys : List A) (x y : A) → xs ++ (x ∷ []) ≡ ys ++ (y ∷ []) → (xs ≡ ys) × (x ≡ y)
snoc_same [] [] x y e = (refl, cc)
snoc_same [] (b ∷ ys) x y e = let tail : [] ≡ ys ++ (y ∷ []) = cc in absurd (snoc_none ys y tail)
snoc_same (a ∷ xs) [] x y e = let tail : [] ≡ xs ++ (x ∷ []) = cc in absurd (snoc_none xs x tail)
snoc_same (a ∷ xs) (b ∷ ys) x y e =
    let tails : xs ++ (x ∷ []) ≡ ys ++ (y ∷ []) = cc in
    let rest = snoc_same xs ys x y tails in
    let fronts : xs ≡ ys = rest.0 in
    (cc, rest.1)

-- the number of a refused post is one
post_single : (t : Theory) (s : State) (r : List Literal) (n k : ℕ) → PostRefused t s r n → PostRefused t s r k → n ≡ k
post_single t s r n k (inl a) (inl b) = a.1 ∙ sym b.1
post_single t s r n k (inl a) (inr (inl b)) = absurd (omega (arith, a.0, b.0))
post_single t s r n k (inl a) (inr (inr b)) = absurd (omega (arith, a.0, b.0))
post_single t s r n k (inr (inl a)) (inl b) = absurd (omega (arith, a.0, b.0))
post_single t s r n k (inr (inl a)) (inr (inl b)) = a.2 ∙ sym b.2
post_single t s r n k (inr (inl a)) (inr (inr b)) = absurd (a.1 b.1)
post_single t s r n k (inr (inr a)) (inl b) = absurd (omega (arith, a.0, b.0))
post_single t s r n k (inr (inr a)) (inr (inl b)) = absurd (b.1 a.1)
post_single t s r n k (inr (inr a)) (inr (inr b)) = a.3 ∙ sym b.3

-- a post that is granted is not refused
post_granted : (t : Theory) (s : State) (r : List Literal) (n : ℕ) (z : State) → Step t s (post r) granted z → PostRefused t s r n → ⊥
post_granted t s r n z g (inl a) = omega (arith, a.0, g.0)
post_granted t s r n z g (inr (inl a)) = a.1 g.1
post_granted t s r n z g (inr (inr a)) = omega (arith, a.2, g.2)

none_some : (s : State) (C : List Equation) → s.shown ≡ None → s.shown ≡ Some C → ⊥
none_some s C a b = let z : ◌≡◌ {A = ℕ} 0 1 = cc in omega arith

same_shown : (s : State) (C D : List Equation) → s.shown ≡ Some C → s.shown ≡ Some D → C ≡ D
same_shown s C D a b = cc

choice_single : (s : State) (k n m : ℕ) → ChoiceRefused s k n → ChoiceRefused s k m → n ≡ m
choice_single s k n m (inl a) (inl b) = a.1 ∙ sym b.1
choice_single s k n m (inl a) (inr b) = absurd (none_some s b.0 a.0 b.1)
choice_single s k n m (inr a) (inl b) = absurd (none_some s a.0 b.0 a.1)
choice_single s k n m (inr a) (inr b) = a.3 ∙ sym b.3

choice_granted : (t : Theory) (s : State) (k n l r : ℕ) (z : State) → ChoiceRefused s k n → Step t s (choice k) (chosen l r) z → ⊥
choice_granted t s k n l r z (inl a) c = none_some s c.0 a.0 c.1
choice_granted t s k n l r z (inr a) c = omega (arith, a.2, c.2, ap length (same_shown s a.0 c.0 a.1 c.1))

-- the answer to an ask is one
module _ (t : Theory) (s : State) (b m m' : ℕ) (z z' : State) where
  ends : (o o' : End) → Walk t s.rules b [] 0 m o → Walk t s.rules b [] 0 m' o' → (m ≡ m') × (o ≡ o')
  ends o o' = (laws t).one s.rules b m m' o o'

  ask_single : (w w' : Word) → Answers t s b w m z → Answers t s b w' m' z' → (answered w m ≡ answered w' m') × (z ≡ z')
  ask_single W.Found W.Found x y =
      let e = ends (found x.0) (found y.0) x.1 y.1 in
      let p = e.1 in
      let same : x.0 ≡ y.0 = cc in
      (ap (answered W.Found) e.0, x.2 ∙ ap (λ (C : List Equation). state s.rules s.scopes (Some C)) same ∙ sym y.2)
  ask_single W.Found W.None x y = let p = (ends (found x.0) dead x.1 y.0).1 in let q : ◌≡◌ {A = ℕ} 0 1 = cc in absurd (omega arith)
  ask_single W.Found W.Spent x y = let p = (ends (found x.0) spent x.1 y.0).1 in let q : ◌≡◌ {A = ℕ} 0 1 = cc in absurd (omega arith)
  ask_single W.None W.Found x y = let p = (ends dead (found y.0) x.0 y.1).1 in let q : ◌≡◌ {A = ℕ} 0 1 = cc in absurd (omega arith)
  ask_single W.None W.None x y = (ap (answered W.None) (ends dead dead x.0 y.0).0, x.1 ∙ sym y.1)
  ask_single W.None W.Spent x y = let p = (ends dead spent x.0 y.0).1 in let q : ◌≡◌ {A = ℕ} 0 1 = cc in absurd (omega arith)
  ask_single W.Spent W.Found x y = let p = (ends spent (found y.0) x.0 y.1).1 in let q : ◌≡◌ {A = ℕ} 0 1 = cc in absurd (omega arith)
  ask_single W.Spent W.None x y = let p = (ends spent dead x.0 y.0).1 in let q : ◌≡◌ {A = ℕ} 0 1 = cc in absurd (omega arith)
  ask_single W.Spent W.Spent x y = (ap (answered W.Spent) (ends spent spent x.0 y.0).0, x.1 ∙ sym y.1)

module _ (t : Theory) (s : State) where
  pub step_single : (c : Asking) (r r' : Answer) (z z' : State) → Step t s c r z → Step t s c r' z' → (r ≡ r') × (z ≡ z')
  step_single (post l) granted granted z z' x y = (refl, x.3 ∙ sym y.3)
  step_single (post l) granted (refused n) z z' x y = absurd (post_granted t s l n z x y.0)
  step_single (post l) granted (answered w m) z z' x y = absurd y
  step_single (post l) granted (chosen a b) z z' x y = absurd y
  step_single (post l) (refused n) granted z z' x y = absurd (post_granted t s l n z' y x.0)
  step_single (post l) (refused n) (refused k) z z' x y = (ap refused (post_single t s l n k x.0 y.0), x.1 ∙ sym y.1)
  step_single (post l) (refused n) (answered w m) z z' x y = absurd y
  step_single (post l) (refused n) (chosen a b) z z' x y = absurd y
  step_single (post l) (answered w m) r' z z' x y = absurd x
  step_single (post l) (chosen a b) r' z z' x y = absurd x
  step_single opens granted granted z z' x y = (refl, x.1 ∙ sym y.1)
  step_single opens granted (refused n) z z' x y = absurd (omega (arith, x.0, y.0))
  step_single opens granted (answered w m) z z' x y = absurd y
  step_single opens granted (chosen a b) z z' x y = absurd y
  step_single opens (refused n) granted z z' x y = absurd (omega (arith, x.0, y.0))
  step_single opens (refused n) (refused k) z z' x y = (ap refused (x.1 ∙ sym y.1), x.2 ∙ sym y.2)
  step_single opens (refused n) (answered w m) z z' x y = absurd y
  step_single opens (refused n) (chosen a b) z z' x y = absurd y
  step_single opens (answered w m) r' z z' x y = absurd x
  step_single opens (chosen a b) r' z z' x y = absurd x
  step_single closes granted granted z z' x y =
      let e = snoc_same x.0 y.0 x.1 y.1 (sym x.2 ∙ y.2) in
      (refl, x.3 ∙ ap₂ (λ (n : ℕ) (ls : List ℕ). state (take n s.rules) ls None) e.1 e.0 ∙ sym y.3)
  step_single closes granted (refused n) z z' x y = absurd (snoc_none x.0 x.1 (sym y.0 ∙ x.2))
  step_single closes granted (answered w m) z z' x y = absurd y
  step_single closes granted (chosen a b) z z' x y = absurd y
  step_single closes (refused n) granted z z' x y = absurd (snoc_none y.0 y.1 (sym x.0 ∙ y.2))
  step_single closes (refused n) (refused k) z z' x y = (ap refused (x.1 ∙ sym y.1), x.2 ∙ sym y.2)
  step_single closes (refused n) (answered w m) z z' x y = absurd y
  step_single closes (refused n) (chosen a b) z z' x y = absurd y
  step_single closes (answered w m) r' z z' x y = absurd x
  step_single closes (chosen a b) r' z z' x y = absurd x
  step_single (ask b) granted r' z z' x y = absurd x
  step_single (ask b) (refused n) r' z z' x y = absurd x
  step_single (ask b) (answered w m) granted z z' x y = absurd y
  step_single (ask b) (answered w m) (refused n) z z' x y = absurd y
  step_single (ask b) (answered w m) (answered v k) z z' x y = ask_single t s b m k z z' w v x y
  step_single (ask b) (answered w m) (chosen l r) z z' x y = absurd y
  step_single (ask b) (chosen l r) r' z z' x y = absurd x
  step_single (choice k) granted r' z z' x y = absurd x
  step_single (choice k) (refused n) granted z z' x y = absurd y
  step_single (choice k) (refused n) (refused m) z z' x y = (ap refused (choice_single s k n m x.0 y.0), x.1 ∙ sym y.1)
  step_single (choice k) (refused n) (answered w m) z z' x y = absurd y
  step_single (choice k) (refused n) (chosen l r) z z' x y = absurd (choice_granted t s k n l r z' x.0 y)
  step_single (choice k) (answered w m) r' z z' x y = absurd x
  step_single (choice k) (chosen l r) granted z z' x y = absurd y
  step_single (choice k) (chosen l r) (refused n) z z' x y = absurd (choice_granted t s k n l r z y.0 x)
  step_single (choice k) (chosen l r) (answered w m) z z' x y = absurd y
  step_single (choice k) (chosen l r) (chosen a b) z z' x y =
      let same = same_shown s x.0 y.0 x.1 y.1 in
      let read = sym x.3 ∙ ap (λ (C : List Equation). get_or C k (record { left = 0; right = 0 })) same ∙ y.3 in
      (ap₂ chosen (ap (λ (e : Equation). e.left) read) (ap (λ (e : Equation). e.right) read), x.4 ∙ sym y.4)

-- calls have one run
pub run_single : (t : Theory) {cs ds : List Asking} {rs qs : List Answer} {z y : State} → Run t cs rs z → Run t ds qs y → cs ≡ ds → (rs ≡ qs) × (z ≡ y)
run_single t begin begin e = (refl, refl)
run_single t begin (next {cs = ds} c r run step after) e = absurd (snoc_none ds c e)
run_single t (next {cs = cs} c r run step after) begin e = absurd (snoc_none cs c (sym e))
run_single t (next {cs = cs} {s = s} {z = z} c r run step after) (next {cs = ds} {s = x} {z = y} d q more last law) e =
    let calls = snoc_same cs ds c d e in
    let before = run_single t run more calls.0 in
    let moved : Step t s c q y = subst (λ (u : State). Step t u c q y) (sym before.1) (subst (λ (a : Asking). Step t x a q y) (sym calls.1) last) in
    let here = step_single t s c r q z y step moved in
    (ap₂ (λ (answers : List Answer) (a : Answer). answers ++ (a ∷ [])) before.0 here.0, here.1)
