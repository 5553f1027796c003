-- The steps of the loop that tries the equations of a rule. Assumes nothing.
use Rattle.std.proofs.Common.{◌≡◌, ℕ, ◌+◌, ◌-◌, ◌<◌, ◌≤◌, true, false, ◌⊎◌, List, [], ◌∷◌, ◌++◌, length, get_or, take, drop, sym, refl, ap, ◌∙◌, subst, inl, inr, arith, drop_of_length-le, take_all}
use Rattle.std.proofs.lemmas.List.{take-append-le}
use Rattle.logic.specs.Theories.{Clash}
use Rattle.logic.specs.Answers.{Kept}
use Rattle.logic.specs.declared.Equation.{Equation}
use Rattle.logic.specs.declared.Logic.{Ghosts}
use Rattle.logic.proofs.Sames.{same_sym, kept_refl, kept_trans}
use Rattle.rules.specs.declared.Literal.{Literal}
use Rattle.rules.specs.declared.Literal.TheVariants as V
use Rattle.rules.specs.Rules.{equations}
use Rattle.rules.specs.Openness.{AllSettled, TakenRule}
use Rattle.rules.specs.Walks.{End, Walk, Tries}
use Rattle.rules.specs.Walks.End.{found, dead, spent}
use Rattle.rules.specs.Walks.Walk.{settled, takes}
use Rattle.rules.specs.Walks.Tries.{tried, spends, clashes, returns, finds, runs_out}
use Rattle.rules.specs.Marks.{Ready}
use Rattle.rules.proofs.Basics.{In, had_at}
use Rattle.rules.proofs.Moved.{clash_moved, clash_back, walk_moved}
use Rattle.rules.proofs.Readiness.{ready_room, ready_next, ready_moved}
use Rattle.walk.specs.declared.Word.{Word}
use Rattle.walk.specs.declared.Word.TheVariants as W
use Rattle.walk.specs.Walked.{Tried, IfNone, Walked, Trying}
use Rattle.walk.proofs.Literals.{drop_at, in_at}

take_back : (S : List Equation) (e : Equation) → take (length S) (S ++ (e ∷ [])) ≡ S
take_back S e = take-append-le (length S) S (e ∷ []) (omega arith) ∙ take_all (length S) S (omega arith)

module _ {X : Type 0} (G : Ghosts X) where
  -- what a call keeps, from one logic to another
  abbrev Keep : X → X → Type 0
  Keep s z = Kept (G.theory s) (G.theory z) (G.telling s) (G.telling z) (G.lawful z)

  module _ (R : List (List Literal)) (b : ℕ) (s : X) (n : ℕ) where
    pub walked_found : (cs : List Equation) → G.lawful s → AllSettled (G.theory s) (G.stands s) R → cs ≡ G.stands s
        → Walked G R b s n W.Found n s cs
    walked_found cs good none e = record { kept = kept_refl (G.theory s) (G.telling s) (G.lawful s) good; walk = settled none; bare = tt; shown = e }

    module _ (k : ℕ) (ls : List Literal) where
      pub begin_trying : get_or R k [] ≡ ls → TakenRule (G.theory s) (G.stands s) R k → G.lawful s → Trying G R b s n (equations ls) n s
      begin_trying same p good =
          record {
            kept = kept_refl (G.theory s) (G.telling s) (G.lawful s) good;
            bare = refl;
            onward = λ m o ts. takes k p (let P : List Literal → Type 0 = λ r. Tries (G.theory s) R b (G.stands s) (equations r) n m o in subst P (sym same) ts);
          }

      module _ (z : X) (trials i : ℕ) (y : Trying G R b s n (equations (drop i ls)) trials z) where
        pub end_trying : (cs : List Equation) → length ls ≤ i → Walked G R b s n W.None trials z cs
        end_trying cs h =
            record {
              kept = y.kept;
              walk = y.onward trials dead (let P : List Literal → Type 0 = λ r. Tries (G.theory s) R b (G.stands s) (equations r) trials trials dead in subst P (sym (drop_of_length-le ls h)) tried);
              bare = y.bare;
              shown = tt;
            }

        pub skip_trying : (d : Literal) (e : Equation) → i < length ls → get_or ls i d ≡ V.Denied e → Trying G R b s n (equations (drop (i + 1) ls)) trials z
        skip_trying d e h p =
            let P : List Literal → Type 0 = λ r. Trying G R b s n (equations r) trials z in subst P (drop_at ls i d (V.Denied e) h p) y

        module _ (d : Literal) (e : Equation) (h : i < length ls) (q : get_or ls i d ≡ V.Equal e) where
          -- what is tried of e and of what follows it
          on : (m : ℕ) (o : End) → Tries (G.theory s) R b (G.stands s) (e ∷ equations (drop (i + 1) ls)) trials m o → Walk (G.theory s) R b (G.stands s) n m o
          on m o ts = y.onward m o (let P : List Literal → Type 0 = λ r. Tries (G.theory s) R b (G.stands s) (equations r) trials m o in subst P (sym (drop_at ls i d (V.Equal e) h q)) ts)

          pub over_trying : (cs : List Equation) → trials ≡ b → Walked G R b s n W.Spent trials z cs
          over_trying cs full = record { kept = y.kept; walk = on trials spent (spends full); bare = tt; shown = tt }

          module _ (x : ℕ) (same : get_or R k [] ≡ ls) (p : TakenRule (G.theory s) (G.stands s) R k) (ready : Ready (G.theory s) R (G.stands s) x) where
            inside : In e (equations (get_or R k []))
            inside = let P : List Literal → Type 0 = λ r. In e (equations r) in subst P (sym same) (in_at ls i d e h q)

            had : (G.theory s).has e ≡ true
            had = had_at (G.theory s) e (equations (get_or R k [])) (ready.had k p.within).0 inside

            -- not taken: the next is tried
            pub clash_trying : (v : X) → trials < b → Keep z v → Tried (G.theory z) (G.stands z) e false (G.stands v)
                → Trying G R b s n (equations (drop (i + 1) ls)) (trials + 1) v
            clash_trying v less keep a =
                let room = ready_room (G.theory s) R (G.stands s) x k ready p in
                let clash : Clash (G.theory z) (G.stands z) e = a.0 (y.kept.theory.has e ∙ had) (omega (arith, ap length y.bare, room.1)) in
                record {
                  kept = kept_trans y.kept keep;
                  bare = a.1 ∙ y.bare;
                  onward = λ m o ts. on m o (clashes less (let P : List Equation → Type 0 = λ f. Clash (G.theory s) f e in subst P y.bare (clash_moved (G.theory z) (G.theory s) y.kept.theory (G.stands z) e clash)) ts);
                }

            module _ (v : X) (keep : Keep z v) (a : Tried (G.theory z) (G.stands z) e true (G.stands v)) where
              pushed : G.stands v ≡ G.stands s ++ (e ∷ [])
              pushed = a.1 ∙ ap (λ f. f ++ (e ∷ [])) y.bare

              moved : Keep s v
              moved = kept_trans y.kept keep

              unclashed : Clash (G.theory s) (G.stands s) e → ⊥
              unclashed c = a.0 (let P : List Equation → Type 0 = λ f. Clash (G.theory z) f e in subst P (sym y.bare) (clash_back (G.theory z) (G.theory s) y.kept.theory (G.stands s) e c))

              pub ready_inner : Ready (G.theory v) R (G.stands v) (x - 1)
              ready_inner =
                  let P : List Equation → Type 0 = λ f. Ready (G.theory v) R f (x - 1) in
                  subst P (sym pushed) (ready_moved (G.theory s) (G.theory v) (same_sym moved.theory) R (G.stands s ++ (e ∷ [])) (x - 1) (ready_next (G.theory s) R (G.stands s) x k e ready p inside))

              pub choices_inner : (bs cs ds : List Equation) → bs ≡ G.stands s → cs ≡ bs → ds ≡ cs ++ (e ∷ []) → ds ≡ G.stands v
              choices_inner bs cs ds p₀ p₁ p₂ = p₂ ∙ ap (λ f. f ++ (e ∷ [])) (p₁ ∙ p₀) ∙ sym pushed

              walk_inner : (m : ℕ) (o : End) → Walk (G.theory v) R b (G.stands v) (trials + 1) m o → Walk (G.theory s) R b (G.stands s ++ (e ∷ [])) (trials + 1) m o
              walk_inner m o w = walk_moved (G.theory v) (G.theory s) moved.theory R b (let P : List Equation → Type 0 = λ f. Walk (G.theory v) R b f (trials + 1) m o in subst P pushed w)

              -- taken, and no dead end further on
              pub done_trying : (r : Word) (m : ℕ) (f : X) (cs : List Equation) → (r ≡ W.Found) ⊎ (r ≡ W.Spent) → trials < b
                  → Walked G R b v (trials + 1) r m f cs → Walked G R b s n r m f cs
              done_trying W.Found m f cs ends less w =
                  record {
                    kept = kept_trans moved w.kept;
                    walk = on m (found (G.stands f)) (finds less unclashed (walk_inner m (found (G.stands f)) w.walk));
                    bare = tt;
                    shown = w.shown;
                  }
              done_trying W.None m f cs (inl e) less w = let one : ◌≡◌ {A = ℕ} 0 1 = cc in absurd (omega arith)
              done_trying W.None m f cs (inr e) less w = let one : ◌≡◌ {A = ℕ} 0 1 = cc in absurd (omega arith)
              done_trying W.Spent m f cs ends less w =
                  record {
                    kept = kept_trans moved w.kept;
                    walk = on m spent (runs_out less unclashed (walk_inner m spent w.walk));
                    bare = tt;
                    shown = tt;
                  }

              -- taken, a dead end further on, and taken back
              pub next_trying : (m : ℕ) (f : X) (cs : List Equation) (j : X) (l : ℕ) → trials < b → l ≡ length (G.stands s)
                  → Walked G R b v (trials + 1) W.None m f cs → Keep f j → G.stands j ≡ take l (G.stands f)
                  → Trying G R b s n (equations (drop (i + 1) ls)) m j
              next_trying m f cs j l less long w back oldest =
                  record {
                    kept = kept_trans (kept_trans moved w.kept) back;
                    bare = oldest ∙ ap (λ r. take l r) (w.bare ∙ pushed) ∙ ap (λ r. take r (G.stands s ++ (e ∷ []))) long ∙ take_back (G.stands s) e;
                    onward = λ m' o ts. on m' o (returns less unclashed (walk_inner m dead w.walk) ts);
                  }

pub if_not_none : (r : Word) (P : Type 0) → (r ≡ W.Found) ⊎ (r ≡ W.Spent) → IfNone r P
if_not_none W.Found P s = tt
if_not_none W.None P (inl e) = let one : ◌≡◌ {A = ℕ} 0 1 = cc in absurd (omega arith)
if_not_none W.None P (inr e) = let one : ◌≡◌ {A = ℕ} 0 1 = cc in absurd (omega arith)
if_not_none W.Spent P s = tt

pub if_none : (r : Word) (P : Type 0) → r ≡ W.None → IfNone r P → P
if_none r P e h = let Q : Word → Type 0 = λ x. IfNone x P in subst Q e h

-- the choices after a choice is made, kept and taken back
pub cut_back : (a l p w t : List Equation) (e : Equation) (s : ℕ) → s ≡ length a → l ≡ a → p ≡ l ++ (e ∷ []) → w ≡ p → t ≡ take s w → t ≡ a
cut_back a l p w t e s e₀ e₁ e₂ e₃ e₄ =
    e₄ ∙ ap (λ x. take x w) e₀ ∙ ap (λ x. take (length a) x) (e₃ ∙ e₂ ∙ ap (λ x. x ++ (e ∷ [])) e₁) ∙ take_back a e
