-- The partitions of the standing equations, as equations are taken and taken back. Assumes nothing.
use Rattle.std.proofs.Common.{◌≡◌, ℕ, ◌+◌, ◌<◌, ◌≤◌, List, [], ◌∷◌, ◌++◌, length, get_or, take, sym, ap, subst, subst₂, ◌∙◌, arith, length-take}
use Rattle.std.proofs.Math.Logic.{∥∥₁_map}
use Rattle.std.specs.List.{take-map}
use Rattle.std.proofs.lemmas.List.{get_or-map, get_or-take, length-map, length_push, map_push, take-append-le, take-take, take_all}
use Rattle.logic.specs.declared.Equation.{Equation}
use Rattle.logic.proofs.Lists.{each_push}
use Rattle.tags.specs.Partitions.{Exact, joining}
use Rattle.tags.specs.Layers.{tables, newest, Layers}
use Rattle.tags.specs.LayersLemmas.{newest_exact}
use Rattle.tags.specs.declared.partition.Partition.{Partition}
use Rattle.tags.proofs.Partitions.{exact_joined}

-- the partition that was read as the newest has the newest table
pub newest_read : (es : List Equation) (ps : List Partition) (k : ℕ) (p : Partition) → k ≡ length es → length ps ≡ length es + 1
    → p ≡ get_or ps k p → p.lowest ≡ newest es ps
newest_read es ps k p last long read =
    ap (λ (q : Partition). q.lowest) read
    ∙ sym (get_or-map (λ (q : Partition). q.lowest) ps k p [] (omega arith))
    ∙ ap (λ (j : ℕ). get_or (tables ps) j []) last

-- with nothing standing
pub layers_first : (es : List Equation) (ps : List Partition) (p : Partition) → es ≡ [] → ps ≡ p ∷ [] → Exact [] p.lowest → Layers es ps
layers_first es ps p none one x =
    subst₂ (λ (fs : List Equation) (qs : List Partition). Layers fs qs) (sym none) (sym one)
    (λ k h. let first : k ≡ 0 = omega arith in subst (λ (j : ℕ). Exact (take j []) (get_or (p.lowest ∷ []) j [])) (sym first) x)

-- with one equation more, and its partition
pub layers_push : (es : List Equation) (ps : List Partition) (e : Equation) (p : Partition) → length ps ≡ length es + 1
    → Exact (es ++ (e ∷ [])) p.lowest → Layers es ps → Layers (es ++ (e ∷ [])) (ps ++ (p ∷ []))
layers_push es ps e p long exact layers k h =
    let fs = es ++ (e ∷ []) in
    let ts = tables ps in
    let many : length ts ≡ length es + 1 = length-map ps (λ q. q.lowest) ∙ long in
    let older : (j : ℕ) → j < length ts → Exact (take j fs) (get_or ts j [])
    = λ j less. subst (λ (gs : List Equation). Exact gs (get_or ts j [])) (sym (take-append-le j es (e ∷ []) (omega arith))) (layers j (omega arith)) in
    let newest : Exact (take (length ts) fs) p.lowest
    = subst (λ (gs : List Equation). Exact gs p.lowest) (sym (take_all (length ts) fs (omega (arith, length_push es e)))) exact in
    subst (λ (us : List (List ℕ)). Exact (take k fs) (get_or us k [])) (sym (map_push (λ q. q.lowest) ps p))
    (each_push (λ j x. Exact (take j fs) x) ts p.lowest [] older newest k (omega (arith, length_push es e, length_push ts p.lowest)))

-- the partition that joins both sides of the equation is the one to go with it
pub layers_taken : (es : List Equation) (ps : List Partition) (e : Equation) (ls : List ℕ) (p : Partition) → length ps ≡ length es + 1
    → length ls ≡ 1024 → ls ≡ newest es ps → p.lowest ≡ joining ls e.left e.right → e.left < 1024 → e.right < 1024
    → ∥ Layers es ps ∥₁ → ∥ Layers (es ++ (e ∷ [])) (ps ++ (p ∷ [])) ∥₁
layers_taken es ps e ls p long wide read joined left right layers =
    let here : Exact es ls = subst (λ (x : List ℕ). Exact es x) (sym read) (newest_exact es ps layers) in
    ∥∥₁_map layers
    (layers_push es ps e p long (subst (λ (x : List ℕ). Exact (es ++ (e ∷ [])) x) (sym joined) (exact_joined es ls e wide left right here)))

-- with the oldest n equations
pub layers_back : (es : List Equation) (ps : List Partition) (n m : ℕ) → m ≡ length (take n es) + 1 → Layers es ps → Layers (take n es) (take m ps)
layers_back es ps n m long layers k h =
    let within : (k ≤ n) × (k ≤ length es) = (omega (arith, length-take n es), omega (arith, length-take n es)) in
    subst₂ (λ (fs : List Equation) (x : List ℕ). Exact fs x) (sym (take-take k n es within.0))
    (sym (ap (λ (ts : List (List ℕ)). get_or ts k []) (sym (take-map (λ q. q.lowest) m ps)) ∙ get_or-take m (tables ps) k [] (omega arith)))
    (layers k within.1)
