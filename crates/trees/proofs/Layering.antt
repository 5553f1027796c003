-- Layers as they are made, written and forgotten. Assumes nothing.
use Rattle.std.proofs.Common.{◌≡◌, ◌≢◌, ℕ, zero, suc, ◌+◌, ◌-◌, ◌<◌, ◌≤◌, ◌⊎◌, List, [], ◌∷◌, ◌++◌, map, length, get_or, take, drop, set, vec_items, sym, refl, ap, ◌∙◌, subst, ap₂, subst₂, inl, inr, arith, length-append, length-take, get_or-drop, get_or-take, take_all, take-take}
use lib.Seq.{take-append-le}
use Rattle.std.specs.List.{range_with_len}
use Rattle.std.proofs.lemmas.List.{get_or-map, map-set, length-map, get_or-set_same, get_or-set_other, set-append_right, get_or_push, get_or_append_left}
use Rattle.std.proofs.lemmas.List.FromFn.{map-range_with_len_more, length-map-range_with_len, get_or-map-range_with_len}
use Rattle.std.proofs.lemmas.Bool.{cases_eq}
use Rattle.logic.specs.declared.Equation.{Equation}
use Rattle.terms.specs.Sheets.{Row, row, Compound, Sheet}
use Rattle.classes.specs.Classes.{Settled}
use Rattle.classes.proofs.Apart.{apart_settled}
use Rattle.trees.specs.Terms.{head_alone, alone, heads_alone}
use Rattle.trees.specs.Layers.{table_at, heads_at, SettledAt, Layered, Wide}
use Rattle.trees.specs.declared.layer.Layer.{Layer}

-- as many heads as terms
pub head_long : (l : Layer) → length (vec_items l.heads) ≡ length (vec_items l.table)
head_long l = omega (arith, l.long, l.table.ok.0, l.heads.ok.0)

module _ (ls : List Layer) where
  -- a layer that is read has the table and the heads of its number
  pub table_read : (k : ℕ) (l : Layer) → k < length ls → l ≡ get_or ls k l → table_at k ls ≡ vec_items l.table
  table_read k l h read = get_or-map (λ (m : Layer). vec_items m.table) ls k l [] h ∙ ap (λ (m : Layer). vec_items m.table) (sym read)

  pub heads_read : (k : ℕ) (l : Layer) → k < length ls → l ≡ get_or ls k l → heads_at k ls ≡ vec_items l.heads
  heads_read k l h read = get_or-map (λ (m : Layer). vec_items m.heads) ls k l [] h ∙ ap (λ (m : Layer). vec_items m.heads) (sym read)

  -- a layer that is written leaves the others
  module _ (i : ℕ) (l : Layer) where
    pub table_new : i < length ls → table_at i (set ls i l) ≡ vec_items l.table
    table_new h =
        ap (λ (xss : List (List ℕ)). get_or xss i []) (map-set (λ (m : Layer). vec_items m.table) ls i l)
        ∙ get_or-set_same (map (λ (m : Layer). vec_items m.table) ls) i (vec_items l.table) [] (omega (arith, length-map ls (λ (m : Layer). vec_items m.table)))

    pub heads_new : i < length ls → heads_at i (set ls i l) ≡ vec_items l.heads
    heads_new h =
        ap (λ (xss : List (List ℕ)). get_or xss i []) (map-set (λ (m : Layer). vec_items m.heads) ls i l)
        ∙ get_or-set_same (map (λ (m : Layer). vec_items m.heads) ls) i (vec_items l.heads) [] (omega (arith, length-map ls (λ (m : Layer). vec_items m.heads)))

    pub table_other : (j : ℕ) → j ≢ i → table_at j (set ls i l) ≡ table_at j ls
    table_other j ne =
        ap (λ (xss : List (List ℕ)). get_or xss j []) (map-set (λ (m : Layer). vec_items m.table) ls i l)
        ∙ get_or-set_other (map (λ (m : Layer). vec_items m.table) ls) i j (vec_items l.table) [] ne

    pub heads_other : (j : ℕ) → j ≢ i → heads_at j (set ls i l) ≡ heads_at j ls
    heads_other j ne =
        ap (λ (xss : List (List ℕ)). get_or xss j []) (map-set (λ (m : Layer). vec_items m.heads) ls i l)
        ∙ get_or-set_other (map (λ (m : Layer). vec_items m.heads) ls) i j (vec_items l.heads) [] ne

    pub wide_kept : (rs : List Row) (n : ℕ) → i < length ls → length (vec_items l.table) ≡ length rs → Wide rs ls n → Wide rs (set ls i l) n
    wide_kept rs n h long wide k lk =
        elim (cases_eq k i) [
          | inl same ↦ ap (λ (j : ℕ). length (table_at j (set ls i l))) same ∙ ap length (table_new h) ∙ long
          | inr other ↦ ap length (table_other k other) ∙ wide k lk
        ]

-- the layer after k, written in the second of two parts
pub joined_parts : (ls olds news : List Layer) (k : ℕ) (l : Layer) → ls ≡ olds ++ news → length olds ≡ k + 1 → olds ++ set news 0 l ≡ set ls (k + 1) l
joined_parts ls olds news k l parts long =
    ap (λ (i : ℕ). olds ++ set news i l) (let z : 0 ≡ k + 1 - (k + 1) = omega arith in z)
    ∙ sym (set-append_right olds news (k + 1) (k + 1) l long (omega arith)) ∙ ap (λ (ms : List Layer). set ms (k + 1) l) (sym parts)

-- a list of so many values, and one more
pub more_listed : (f : ℕ → ℕ) (xs ys : List ℕ) (n x : ℕ) → xs ≡ map f (range_with_len 0 n) → ys ≡ xs ++ (x ∷ []) → x ≡ f n
    → ys ≡ map f (range_with_len 0 (n + 1))
more_listed f xs ys n x old pushed e = pushed ∙ ap₂ (λ (us : List ℕ) (y : ℕ). us ++ (y ∷ [])) old e ∙ sym (map-range_with_len_more f 0 n n (omega arith))

-- terms that are alone in their classes are settled where nothing stands
head_name : (n none : ℕ) (r : Row) → r ≡ Row.name → head_alone n none r ≡ none
head_name n none r e = ap (head_alone n none) e

head_compound : (n none : ℕ) (r : Row) → Compound r → head_alone n none r ≡ n
head_compound n none Row.name c = absurd c
head_compound n none (Row.over s xs) c = refl

pub alone_settled : (ar : List ℕ) (rs : List Row) → Sheet ar rs → Settled rs [] (alone (length rs)) (heads_alone (length rs) rs)
alone_settled ar rs sheet =
    let n = length rs in
    let head : (a : ℕ) → a < n → get_or (heads_alone n rs) a 0 ≡ head_alone a n (row rs a) =
    λ a h. get_or-map-range_with_len (λ (m : ℕ). head_alone m n (row rs m)) 0 n a a 0 h (omega arith) in
    apart_settled ar rs (alone n) (heads_alone n rs) sheet
    (length-map-range_with_len (λ (m : ℕ). m) 0 n) (length-map-range_with_len (λ (m : ℕ). head_alone m n (row rs m)) 0 n)
    (λ a h. get_or-map-range_with_len (λ (m : ℕ). m) 0 n a a 0 h (omega arith))
    (λ a h name. omega (arith, head a h, head_name a n (row rs a) name))
    (λ a h compound. head a h ∙ head_compound a n (row rs a) compound)

-- layers that are all made alike, and one more
pub push_alike : (f : Layer → List ℕ) (ls ms : List Layer) (l : Layer) (n : ℕ) (xs : List ℕ) → length ls ≡ n → ms ≡ ls ++ (l ∷ [])
    → ((k : ℕ) → k < n → get_or (map f ls) k [] ≡ xs) → f l ≡ xs → (k : ℕ) → k < n + 1 → get_or (map f ms) k [] ≡ xs
push_alike f ls ms l n xs count grown old new k h =
    get_or-map f ms k l [] (omega (arith, ap length grown, length-append ls (l ∷ [])))
    ∙ elim (cases_eq k n) [
      | inl same ↦ ap f (ap (λ (ns : List Layer). get_or ns k l) grown ∙ get_or_push ls l l k (omega arith)) ∙ new
      | inr other ↦
          ap f (ap (λ (ns : List Layer). get_or ns k l) grown ∙ get_or_append_left ls (l ∷ []) l k (omega arith))
          ∙ sym (get_or-map f ls k l [] (omega arith)) ∙ old k (omega arith)
    ]

-- of two parts that layers are split into, the last of the first and the first of the second
pub front_read : (ls olds : List Layer) (k : ℕ) (l : Layer) → olds ≡ take (k + 1) ls → l ≡ get_or olds k l → l ≡ get_or ls k l
front_read ls olds k l front read = read ∙ ap (λ (os : List Layer). get_or os k l) front ∙ get_or-take (k + 1) ls k l (omega arith)

pub back_read : (ls news : List Layer) (k : ℕ) (l : Layer) → news ≡ drop (k + 1) ls → l ≡ get_or news 0 l → l ≡ get_or ls (k + 1) l
back_read ls news k l back read =
    read ∙ ap (λ (ns : List Layer). get_or ns 0 l) back ∙ get_or-drop (k + 1) ls 0 l ∙ ap (λ (i : ℕ). get_or ls i l) (let z : k + 1 + 0 ≡ k + 1 = omega arith in z)

module _ (rs : List Row) (es : List Equation) (ls : List Layer) where
  -- with nothing standing
  pub layers_first : es ≡ [] → SettledAt rs [] 0 ls → Layered rs es ls
  layers_first none x = subst (λ (fs : List Equation). Layered rs fs ls) (sym none) first
    where
      first : Layered rs [] ls
      first zero h = x
      first (suc k) h = absurd (omega arith)

  -- with another layer after the newest
  pub layers_kept : (l : Layer) → Layered rs es ls → Layered rs es (set ls (length es + 1) l)
  layers_kept l layers k h =
      subst₂ (λ (xs ys : List ℕ). Settled rs (take k es) xs ys) (sym (table_other ls (length es + 1) l k (omega arith))) (sym (heads_other ls (length es + 1) l k (omega arith))) (layers k h)

  up_to : (e : Equation) (k : ℕ) → k ≤ length (es ++ (e ∷ [])) → (k ≤ length es) ⊎ (k ≡ length es + 1)
  up_to e k h = grind (arith, length-append es (e ∷ []))

  -- with one equation more, and the layer for it
  pub layers_push : (e : Equation) → SettledAt rs (es ++ (e ∷ [])) (length es + 1) ls → Layered rs es ls → Layered rs (es ++ (e ∷ [])) ls
  layers_push e x layers k h =
      elim (up_to e k h) [
        | inl old ↦ subst (λ (fs : List Equation). SettledAt rs fs k ls) (sym (take-append-le k es (e ∷ []) old)) (layers k old)
        | inr new ↦
            subst₂ (λ (fs : List Equation) (j : ℕ). SettledAt rs fs j ls)
            (sym (take_all k (es ++ (e ∷ [])) (omega (arith, length-append es (e ∷ []))))) (sym new) x
      ]

  -- with the oldest n equations
  pub layers_back : (n : ℕ) → Layered rs es ls → Layered rs (take n es) ls
  layers_back n layers k h =
      subst (λ (fs : List Equation). SettledAt rs fs k ls) (sym (take-take k n es (omega (arith, length-take n es)))) (layers k (omega (arith, length-take n es)))
