-- The classes where nothing stands: each term is one of its own. Assumes nothing.
use Rattle.std.proofs.Common.{◌≡◌, ℕ, ◌<◌, ◌≤◌, List, [], map, length, get_or, sym, ap, ◌∙◌, subst, inl, inr, arith}
use Rattle.std.proofs.lemmas.List.{map-id}
use Rattle.terms.specs.Sheets.{Row, row, Compound, Sheet}
use Rattle.terms.proofs.Lists.{map_through}
use Rattle.terms.proofs.Rows.{row_cases, arguments_lower}
use Rattle.classes.specs.Classes.{class, Settled}

module _ (ar : List ℕ) (rs : List Row) (ls hs : List ℕ) (sheet : Sheet ar rs) (long : length ls ≡ length rs) (wide : length hs ≡ length rs)
    (own : (n : ℕ) → n < length rs → get_or ls n 0 ≡ n)
    (names : (n : ℕ) → n < length rs → row rs n ≡ Row.name → length rs ≤ get_or hs n 0)
    (compounds : (n : ℕ) → n < length rs → Compound (row rs n) → get_or hs n 0 ≡ n) where
  same : (a b : ℕ) → a < length rs → b < length rs → class ls a ≡ class ls b → a ≡ b
  same a b h k e = sym (own a h) ∙ e ∙ own b k

  -- the head of a compound term is itself
  head : (a : ℕ) → a < length rs → get_or hs a 0 < length rs → (class ls (get_or hs a 0) ≡ a) × Compound (row rs (get_or hs a 0))
  head a h k =
      elim (row_cases (row rs a)) [
        | inl name ↦ absurd (omega (arith, names a h name))
        | inr compound ↦ (
          own (get_or hs a 0) k ∙ compounds a h compound,
          subst (λ (x : ℕ). Compound (row rs x)) (sym (compounds a h compound)) compound,
        )
      ]

  -- a compound term is written once, so terms with one symbol over the same arguments are one
  congruent : (a b s : ℕ) (xs ys : List ℕ) → a < length rs → b < length rs → row rs a ≡ Row.over s xs → row rs b ≡ Row.over s ys
      → map (class ls) xs ≡ map (class ls) ys → class ls a ≡ class ls b
  congruent a b s xs ys h k p q e =
      let mapped : map (λ (x : ℕ). x) xs ≡ map (λ (x : ℕ). x) ys =
      map_through (class ls) (λ (x : ℕ). x) xs ys
      (λ i l m. same (get_or xs i 0) (get_or ys i 0)
      (omega (arith, (sheet.rows a s xs h p).lower i l)) (omega (arith, (sheet.rows b s ys k q).lower i m))) e in
      let listed : xs ≡ ys = sym (map-id xs) ∙ mapped ∙ map-id ys in
      ap (class ls) (sheet.once a b s xs h k p (q ∙ ap (Row.over s) (sym listed)))

  -- tables in which each term is its own class, and a compound term its own head, are settled where nothing stands
  pub apart_settled : Settled rs [] ls hs
  apart_settled =
      record {
        lowest = record { long = long; low = λ a h. omega (arith, own a h); own = λ a h. ap (class ls) (own a h) };
        heads = record {
          long = wide;
          some = head;
          each = λ t h compound. omega (arith, ap (λ (x : ℕ). get_or hs x 0) (own t h), compounds t h compound);
        };
        closed = λ a b s r xs ys h k e p q. let one : row rs a ≡ row rs b = ap (row rs) (same a b h k e) in cc;
        congruent = congruent;
        ordered = record {
          rank = λ a. a;
          bound = λ a h. h;
          level = same;
          after = λ a i h. arguments_lower ar rs sheet a i h;
        };
        joins = tt;
        sound = λ v solves joins a b h k e. ap v (same a b h k e);
      }
