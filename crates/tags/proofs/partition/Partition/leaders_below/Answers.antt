use Rattle.std.proofs.Common.{◌≡◌, ℕ, zero, suc, ◌+◌, Bool, true, false, cond, [], ◌∷◌, ◌++◌, ◌∙◌, ap, refl, add-one, arith, rules}
use Rattle.std.specs.List.{count_by, range_with_len}
use Rattle.std.proofs.lemmas.List.{map-id}
use Rattle.std.proofs.lemmas.List.FromFn.{map-range_with_len_more, length-range_with_len}
use Rattle.std.proofs.lemmas.List.Sums.{sum_by_push, count_by-le-length}
use Rattle.std.proofs.iter.Yields.{nat_range_steps}
use Rattle.std.proofs.lemmas.Iterator.{YieldsList-from_range}
use Rattle.logic.proofs.Counts.{counted}
use Rattle.groups.specs.Tables.{leads, tally}
use Rattle.tags.proofs.partition.Partition.leaders_below.Goals as goal

one_more : (b : Bool) (t : ℕ) → t + cond b 1 0 ≡ cond b (suc t) t
one_more true t = omega arith
one_more false t = omega arith

-- the tally counts those that pass among the numbers below n
tally_count : (test : ℕ → Bool) (n : ℕ) → count_by test (range_with_len 0 n) ≡ tally test n
tally_count test zero = refl
tally_count test (suc n) =
    let grown : range_with_len 0 (suc n) ≡ range_with_len 0 n ++ (n ∷ []) = rw add-one at (simp map-id at (map-range_with_len_more (λ (x : ℕ). x) 0 n n (omega arith))) in
    ap (count_by test) grown ∙ sum_by_push (λ x. cond (test x) 1 0) (range_with_len 0 n) n ∙ ap (λ t. t + cond (test n) 1 0) (tally_count test n) ∙ one_more (test n) (tally test n)

counts : (c : goal.After-fold) → c.fold.result ≡ count_by (leads c.args.self.now.lowest) (range_with_len 0 c.args.end)
counts c =
    let n = c.args.end in
    counted nat_range_steps (λ x. x) _ (leads c.args.self.now.lowest) 4294967296 _ (λ a x b f called. (search rules, search rules)) (record { start = 0; end = n }) (range_with_len 0 n) c.fold.result
    (YieldsList-from_range 0 n n refl (omega arith)).runs (omega (arith, length-range_with_len 0 n, c.requires)) c.fold.type_inv c.fold.ensures.ran

pub returns-clause-count : goal.returns-clause-count
returns-clause-count c = counts c ∙ tally_count (leads c.args.self.now.lowest) c.args.end

pub returns-clause-within : goal.returns-clause-within
returns-clause-within c =
    let n = c.args.end in
    omega (arith, counts c, count_by-le-length (leads c.args.self.now.lowest) (range_with_len 0 n), length-range_with_len 0 n)
