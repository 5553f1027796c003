-- Sheets as symbols and rows are added. Assumes nothing.
use Rattle.std.proofs.Common.{◌≡◌, ℕ, ◌<◌, ◌≤◌, ◌⊎◌, List, [], ◌∷◌, ◌++◌, length, get_or, take, sym, ap, ◌∙◌, subst, inl, inr, arith, length-take}
use mathlib.Core.HLevel.{hedberg}
use mathlib.Core.Logic.{∥∥₁_elim}
use native.Mathlib.Bridge.{le_prop}
use native.Mathlib.Decide.{ℕ_discrete}
use Rattle.std.proofs.lemmas.List.{get_or_append_left, get_or_push, get_or-take, length_push}
use Rattle.terms.specs.Sheets.{Row, row, Symbols, Writable, Sheet}
use Rattle.sheet.specs.Rows.{Absent, Fresh}

-- a place of a list with one more element is an old one or the last
pub place : {X : Type 0} (xs : List X) (x : X) (i : ℕ) → i < length (xs ++ (x ∷ [])) → (i < length xs) ⊎ (length xs ≡ i)
place xs x i h = grind (arith, length_push xs x)

-- a symbol more
arity_kept : (ar : List ℕ) (a n s : ℕ) (xs : List ℕ) → Writable ar n s xs → Writable (ar ++ (a ∷ [])) n s xs
arity_kept ar a n s xs w =
    record {
      symbol = omega (arith, length_push ar a, w.symbol);
      arity = w.arity ∙ sym (get_or_append_left ar (a ∷ []) 0 s w.symbol);
      lower = w.lower;
    }

symbols_push : (ar : List ℕ) (a : ℕ) → a ≤ 8 → length ar < 16 → Symbols ar → Symbols (ar ++ (a ∷ []))
symbols_push ar a small few x =
    record {
      some = omega (arith, length_push ar a, x.some);
      few = omega (arith, length_push ar a);
      small = λ s h. elim (place ar a s h) [
        | inl old ↦ subst (λ (v : ℕ). v ≤ 8) (sym (get_or_append_left ar (a ∷ []) 0 s old)) (x.small s old)
        | inr new ↦ subst (λ (v : ℕ). v ≤ 8) (sym (get_or_push ar a 0 s new)) small
      ];
      base = get_or_append_left ar (a ∷ []) 0 0 (omega (arith, x.some)) ∙ x.base;
      step = get_or_append_left ar (a ∷ []) 0 1 (omega (arith, x.some)) ∙ x.step;
    }

pub sheet_symbol : (ar : List ℕ) (rs : List Row) (a : ℕ) → a ≤ 8 → length ar < 16 → Sheet ar rs → Sheet (ar ++ (a ∷ [])) rs
sheet_symbol ar rs a small few x =
    record {
      symbols = symbols_push ar a small few x.symbols;
      few = x.few;
      rows = λ n s xs h is. arity_kept ar a n s xs (x.rows n s xs h is);
      once = x.once;
    }

-- a row more
module _ (ar : List ℕ) (rs : List Row) (r : Row) where
  fresh_over : Fresh ar rs r → (s : ℕ) (xs : List ℕ) → r ≡ Row.over s xs → Writable ar (length rs) s xs × Absent rs (Row.over s xs)
  fresh_over fresh s xs is = subst (λ (q : Row). Fresh ar rs q) is fresh

  pub sheet_row : Fresh ar rs r → length rs < 1024 → Sheet ar rs → Sheet ar (rs ++ (r ∷ []))
  sheet_row fresh few x =
      record {
        symbols = x.symbols;
        few = omega (arith, length_push rs r);
        rows = λ n s xs h is. elim (place rs r n h) [
          | inl old ↦ x.rows n s xs old (sym (get_or_append_left rs (r ∷ []) Row.name n old) ∙ is)
          | inr new ↦ subst (λ (k : ℕ). Writable ar k s xs) new (fresh_over fresh s xs (sym (get_or_push rs r Row.name n new) ∙ is)).0
        ];
        once = λ m n s xs h k is too. elim (place rs r m h) [
          | inl old ↦ elim (place rs r n k) [
            | inl older ↦
                x.once m n s xs old older (sym (get_or_append_left rs (r ∷ []) Row.name m old) ∙ is) (sym (get_or_append_left rs (r ∷ []) Row.name n older) ∙ too)
            | inr new ↦
                absurd ((fresh_over fresh s xs (sym (get_or_push rs r Row.name n new) ∙ too)).1 m old (sym (get_or_append_left rs (r ∷ []) Row.name m old) ∙ is))
          ]
          | inr new ↦ elim (place rs r n k) [
            | inl old ↦
                absurd ((fresh_over fresh s xs (sym (get_or_push rs r Row.name m new) ∙ is)).1 n old (sym (get_or_append_left rs (r ∷ []) Row.name n old) ∙ too))
            | inr newer ↦ sym new ∙ newer
          ]
        ];
      }

-- no row
pub sheet_blank : (ar : List ℕ) (rs : List Row) → rs ≡ [] → Symbols ar → Sheet ar rs
sheet_blank ar rs none symbols =
    let nothing : length rs ≡ 0 = ap length none in
    record {
      symbols = symbols;
      few = omega arith;
      rows = λ n s xs h is. absurd (omega arith);
      once = λ m n s xs h k is too. absurd (omega arith);
    }

-- the oldest k rows
pub sheet_oldest : (ar : List ℕ) (rs : List Row) (k : ℕ) → Sheet ar rs → Sheet ar (take k rs)
sheet_oldest ar rs k x =
    record {
      symbols = x.symbols;
      few = omega (arith, length-take k rs, x.few);
      rows = λ n s xs h is. x.rows n s xs (omega (arith, length-take k rs)) (sym (get_or-take k rs n Row.name (omega (arith, length-take k rs))) ∙ is);
      once = λ m n s xs h l is too. x.once m n s xs (omega (arith, length-take k rs)) (omega (arith, length-take k rs))
          (sym (get_or-take k rs m Row.name (omega (arith, length-take k rs))) ∙ is) (sym (get_or-take k rs n Row.name (omega (arith, length-take k rs))) ∙ too);
    }

-- that something is a sheet holds in one way only
module _ (ar : List ℕ) (rs : List Row) (x : ∥ Sheet ar rs ∥₁) where
  symbols_plain : Symbols ar
  symbols_plain =
      record {
        some = ∥∥₁_elim x le_prop (λ y. y.symbols.some);
        few = ∥∥₁_elim x le_prop (λ y. y.symbols.few);
        small = λ s h. ∥∥₁_elim x le_prop (λ y. y.symbols.small s h);
        base = ∥∥₁_elim x (hedberg ℕ_discrete (get_or ar 0 0) 0) (λ y. y.symbols.base);
        step = ∥∥₁_elim x (hedberg ℕ_discrete (get_or ar 1 0) 1) (λ y. y.symbols.step);
      }

  row_plain : (n s : ℕ) (xs : List ℕ) → n < length rs → row rs n ≡ Row.over s xs → Writable ar n s xs
  row_plain n s xs h is =
      record {
        symbol = ∥∥₁_elim x le_prop (λ y. (y.rows n s xs h is).symbol);
        arity = ∥∥₁_elim x (hedberg ℕ_discrete (length xs) (get_or ar s 0)) (λ y. (y.rows n s xs h is).arity);
        lower = λ i k. ∥∥₁_elim x le_prop (λ y. (y.rows n s xs h is).lower i k);
      }

  pub sheet_plain : Sheet ar rs
  sheet_plain =
      record {
        symbols = symbols_plain;
        few = ∥∥₁_elim x le_prop (λ y. y.few);
        rows = row_plain;
        once = λ m n s xs h k is too. ∥∥₁_elim x (hedberg ℕ_discrete m n) (λ y. y.once m n s xs h k is too);
      }
