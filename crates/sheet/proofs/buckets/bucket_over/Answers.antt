use Rattle.std.proofs.Common.{◌≡◌, ℕ, ◌+◌, ◌*◌, ◌%◌, ◌<◌, List, [], ◌∷◌, fold, arith, rules}
use Rattle.std.proofs.lemmas.Fn.{serves_by}
use Rattle.sheet.proofs.buckets.bucket_over.Goals as goal

-- a bucket is one of 2,039
below : (h : ℕ) (xs : List ℕ) → h < 2039 → fold (λ h x. (h * 1583 + x) % 2039) h xs < 2039
below h [] small = small
below h (x ∷ xs) small = below ((h * 1583 + x) % 2039) xs (omega arith)

pub fold-requires-clause-callable : goal.fold-requires-clause-callable
fold-requires-clause-callable c =
    serves_by _ (λ xs q. q.1 < 2039) (λ xs q x v small called. let mixed : v.1 ≡ (q.1 * 1583 + x.now) % 2039 = search rules in omega arith) _ _ _ _ (omega arith)
    (λ xs t q x u given next small. search rules)

pub overflow_cast-result : goal.overflow_cast-result
overflow_cast-result c =
    let value : c.fold.result ≡ fold (λ h x. (h * 1583 + x) % 2039) c.args.symbol c.args.arguments.now = search rules in
    omega (arith, below c.args.symbol c.args.arguments.now (omega arith))

pub returns-clause-within : goal.returns-clause-within
returns-clause-within c =
    let value : c.fold.result ≡ fold (λ h x. (h * 1583 + x) % 2039) c.args.symbol c.args.arguments.now = search rules in
    omega (arith, below c.args.symbol c.args.arguments.now (omega arith))
