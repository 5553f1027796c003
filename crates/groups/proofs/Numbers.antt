-- A number is in one group. Assumes nothing.
use Rattle.std.proofs.Common.{◌≡◌, ℕ, suc, sym, ap, ◌∙◌, subst, inl, inr}
use Rattle.std.proofs.lemmas.Bool.{cases_order}
use Rattle.groups.specs.Groups.{Lowest, Count, GroupNumber}
use Rattle.groups.proofs.Counts.{count_single}

-- two lowest members of one group are the same
pub lowest_single : (In : ℕ → Type 0) (Joined : ℕ → ℕ → Type 0) (m n : ℕ) → Lowest In Joined m → Lowest In Joined n
    → Joined m n → Joined n m → m ≡ n
lowest_single In Joined m n x y there back =
    elim (cases_order m n) [
      | inl same ↦ same
      | inr (inl less) ↦ absurd (y.lowest m less x.member there)
      | inr (inr more) ↦ absurd (x.lowest n more y.member back)
    ]

-- a number's group has one number, where being joined can be turned round and carried on
pub group_single : (In : ℕ → Type 0) (Joined : ℕ → ℕ → Type 0)
    → ((a b : ℕ) → Joined a b → Joined b a) → ((a b c : ℕ) → Joined a b → Joined b c → Joined a c)
    → (n i j : ℕ) → GroupNumber In Joined n i → GroupNumber In Joined n j → i ≡ j
group_single In Joined turn join n i j x y =
    let there : Joined x.m y.m = join x.m n y.m x.joined (turn y.m n y.joined) in
    let same : x.m ≡ y.m = lowest_single In Joined x.m y.m x.lowest y.lowest there (turn x.m y.m there) in
    let moved : Count (Lowest In Joined) y.m x.before = subst (λ (k : ℕ). Count (Lowest In Joined) k x.before) same x.counted in
    x.number ∙ ap suc (count_single (Lowest In Joined) y.m moved y.counted) ∙ sym y.number
