-- The classes that have only names, counted by lowest member, and what is told of a name by the count. Assumes nothing.
use Rattle.std.proofs.Common.{◌≡◌, ℕ, zero, suc, ◌+◌, ◌*◌, ◌<◌, ◌≤◌, Bool, true, false, cond, not, ltb, ◌&&◌, List, ◌∷◌, length, get_or, filter, sym, refl, ap, ap₂, ◌∙◌, arith}
use Rattle.std.specs.List.{count_by, range_with_len}
use Rattle.std.proofs.lemmas.List.Sums.{length-filter}
use Rattle.std.proofs.lemmas.Bool.{eqb-true, lt-ltb, le-ltb, cond-true, cond-false}
use Rattle.logic.specs.Tellings.{Told}
use Rattle.logic.specs.Tellings.Told.{told}
use Rattle.groups.specs.Tables.{leads, tally}
use Rattle.groups.proofs.Counts.{tally_yes, tally_no}
use Rattle.terms.specs.Sheets.{Row}
use Rattle.classes.specs.Worlds.{unbound, free_group}
use Rattle.trees.specs.Models.{leads_names, told_by_table}

module _ (rs : List Row) (ls hs : List ℕ) (long : length rs ≡ length ls) where
  abbrev test : ℕ → Bool
  test m = leads ls m && unbound rs ls hs m

  -- at a term that leads its class the class's head is the term's own
  same : (m : ℕ) (b : Bool) → leads ls m ≡ b → leads_names ls hs m ≡ test m
  same m true e =
      let own : get_or ls m 0 ≡ m = eqb-true (get_or ls m 0) m e in
      ap (λ (n : ℕ). leads ls m && not (ltb (get_or hs m 0) n)) (sym long) ∙ ap (λ (x : ℕ). leads ls m && not (ltb (get_or hs x 0) (length rs))) (sym own)
  same m false e =
      ap (λ (b : Bool). b && not (ltb (get_or hs m 0) (length ls))) e ∙ sym (ap (λ (b : Bool). b && unbound rs ls hs m) e)

  -- the numbers from a on that pass, and those before
  from_on : (a n : ℕ) → tally test a + length (filter (leads_names ls hs) (range_with_len a n)) ≡ tally test (a + n)
  from_on a zero = omega (arith, ap (tally test) (let z : a + 0 ≡ a = omega arith in z))
  from_on a (suc n) = step (test a) refl (from_on (a + 1) n)
    where
      xs : List ℕ
      xs = filter (leads_names ls hs) (range_with_len (a + 1) n)

      step : (b : Bool) → test a ≡ b → tally test (a + 1) + length xs ≡ tally test (a + 1 + n) → tally test a + length (filter (leads_names ls hs) (range_with_len a (suc n))) ≡ tally test (a + suc n)
      step true e rest =
          let grown : length (filter (leads_names ls hs) (range_with_len a (suc n))) ≡ length xs + 1 =
          ap (λ (b : Bool). length (cond b (a ∷ xs) xs)) (same a (leads ls a) refl ∙ e) ∙ (let z : suc (length xs) ≡ length xs + 1 = omega arith in z) in
          omega (arith, grown, tally_yes test a e, ap (tally test) (let z : a + 1 + n ≡ a + suc n = omega arith in z))
      step false e rest =
          let same_long : length (filter (leads_names ls hs) (range_with_len a (suc n))) ≡ length xs =
          ap (λ (b : Bool). length (cond b (a ∷ xs) xs)) (same a (leads ls a) refl ∙ e) in
          omega (arith, same_long, tally_no test a e, ap (tally test) (let z : a + 1 + n ≡ a + suc n = omega arith in z))

  pub names_counted : (n : ℕ) → count_by (leads_names ls hs) (range_with_len 0 n) ≡ tally (λ m. leads ls m && unbound rs ls hs m) n
  names_counted n =
      omega (arith, length-filter (leads_names ls hs) (range_with_len 0 n), from_on 0 n, ap (tally test) (let z : 0 + n ≡ n = omega arith in z))

  -- what is told of a name whose class is led by `lead`, with the head `head`
  module _ (name lead head : ℕ) (leader : lead ≡ get_or ls name 0) (headed : head ≡ get_or hs lead 0) where
    here : head ≡ get_or hs (get_or ls name 0) 0
    here = headed ∙ ap (λ (k : ℕ). get_or hs k 0) leader

    abbrev free : Told
    free = told 0 (free_group rs ls hs name * length rs)

    pub head_told : head < length ls → told 1 head ≡ told_by_table rs ls hs name
    head_told small =
        ap (told 1) here
        ∙ sym (cond-true (ltb (get_or hs (get_or ls name 0) 0) (length rs)) (told 1 (get_or hs (get_or ls name 0) 0)) free
        (lt-ltb (get_or hs (get_or ls name 0) 0) (length rs) (omega (arith, here))))

    pub group_told : (group count : ℕ) → count ≡ length ls → count ≤ head → group ≡ suc (count_by (leads_names ls hs) (range_with_len 0 lead)) → told 0 (group * count) ≡ told_by_table rs ls hs name
    group_told group count many none counted =
        let number : group ≡ free_group rs ls hs name = omega (arith, counted, names_counted lead, ap (tally test) leader) in
        ap₂ (λ (x y : ℕ). told 0 (x * y)) number (many ∙ sym long)
        ∙ sym (cond-false (ltb (get_or hs (get_or ls name 0) 0) (length rs)) (told 1 (get_or hs (get_or ls name 0) 0)) free
        (le-ltb (get_or hs (get_or ls name 0) 0) (length rs) (omega (arith, here))))
