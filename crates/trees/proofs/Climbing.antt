-- Parents as they are moved up. Assumes nothing.
use Rattle.std.proofs.Common.{◌≡◌, ◌≢◌, ℕ, ◌+◌, ◌<◌, List, get_or, set, sym, ◌∙◌, subst, arith}
use Rattle.unify.proofs.Finds.{up_less, up_parents, up_kept, up_roots, up_rooted, up_flat}
use Rattle.trees.specs.Merges.{Climbs}
use Rattle.trees.specs.Flats.{Flattening}

module _ (n : ℕ) (os ps : List ℕ) where
  -- on the way up from a term
  pub climb : (a at up : ℕ) → a < n → Climbs n os ps a at → get_or ps at 0 ≢ at → up ≡ get_or ps (get_or ps at 0) 0 → (up < at) × Climbs n os (set ps at up) a up
  climb a at up la climbs apart read =
      let lt : at < n = omega (arith, climbs.low) in
      subst (λ (u : ℕ). (u < at) × Climbs n os (set ps at u) a u) (sym read) (
        up_less n ps climbs.parents at lt apart,
        record {
          parents = up_parents n ps climbs.parents at lt;
          low = omega (arith, climbs.low, up_less n ps climbs.parents at lt apart);
          kept = λ x e. up_kept n ps climbs.parents at lt x (climbs.kept x e);
          many = up_roots n ps climbs.parents at lt ∙ climbs.many;
          rooted = λ f r.
              let old = climbs.rooted f r in
              let below : get_or ps at 0 < n = omega (arith, climbs.parents.low at lt) in
              (up_rooted n ps climbs.parents at lt f old.0, old.0.up (get_or ps at 0) below ∙ old.0.up at lt ∙ old.1);
        },
      )

  -- one term after the other
  pub flatten_next : (a up : ℕ) → a < n → Flattening n os ps a → up ≡ get_or ps (get_or ps a 0) 0 → Flattening n os (set ps a up) (a + 1)
  flatten_next a up la flat read =
      subst (λ (u : ℕ). Flattening n os (set ps a u) (a + 1)) (sym read)
      (record {
        parents = up_parents n ps flat.parents a la;
        rooted = λ f r. up_rooted n ps flat.parents a la f (flat.rooted f r);
        flat = λ f r x l. up_flat n ps flat.parents a la f (flat.rooted f r) (flat.flat f r) x (omega arith);
      })
