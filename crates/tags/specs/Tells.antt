-- What is told of a tag is one thing, and it is what the told world has there. Assumes nothing.
use Rattle.std.specs.Prelude.{◌≡◌, ℕ, zero, suc, ◌<◌, true, List, nat_lt, refl}
use Rattle.std.proofs.Common.{sym, ap, ap₂, ◌∙◌, arith}
use Rattle.std.proofs.lemmas.Bool.{and_parts, and_from, ltb-true}
use Rattle.logic.specs.Trees.{tower, towers}
use Rattle.logic.specs.Theories.{Clash, FreestAt}
use Rattle.logic.specs.Tellings.{Told, Names}
use Rattle.logic.specs.Tellings.Told.{told, refused}
use Rattle.logic.specs.declared.Equation.{Equation}
use Rattle.logic.proofs.Trues.{all_each}
use Rattle.logic.proofs.Towers.{tower_same}
use Rattle.groups.specs.Groups.{GroupNumber}
use Rattle.groups.specs.Tables.{Table, group_of, tally, leads}
use Rattle.groups.proofs.Numbers.{group_single}
use Rattle.groups.proofs.Tables.{group_numbered, group_agrees}
use Rattle.tags.specs.Tags.{tags, agree, Tag, ForcedEqual, TagTold, tag_telling}
use Rattle.tags.specs.Partitions.{Exact, told_by}
use Rattle.tags.specs.PartitionsLemmas.{exact_plain, heights_true}

-- an equation of tags is between two of them
pub between : (e : Equation) → tags.has e ≡ true → (e.left < 1024) × (e.right < 1024)
between e had =
    let both = and_parts (nat_lt e.left 1024) (nat_lt e.right 1024) had in
    (ltb-true e.left 1024 both.0, ltb-true e.right 1024 both.1)

-- the world in which all trees are one makes every equation true
pub no_clash : (es : List Equation) (e : Equation) → Clash tags es e → ⊥
no_clash es e clash = clash (towers (λ n. 0)) tt (all_each tags (towers (λ n. 0)) es (agree 0 0) (λ k h. refl)) refl

-- being forced equal can be turned round and carried on
equal_turned : (es : List Equation) (a b : ℕ) → ForcedEqual es a b → ForcedEqual es b a
equal_turned es a b f =
    let both = and_parts (nat_lt a 1024) (nat_lt b 1024) f.0 in
    (and_from (nat_lt b 1024) (nat_lt a 1024) both.1 both.0, λ w own all. sym (f.1 w own all))

equal_joined : (es : List Equation) (a b c : ℕ) → ForcedEqual es a b → ForcedEqual es b c → ForcedEqual es a c
equal_joined es a b c f g = (
  and_from (nat_lt a 1024) (nat_lt c 1024) (and_parts (nat_lt a 1024) (nat_lt b 1024) f.0).0 (and_parts (nat_lt b 1024) (nat_lt c 1024) g.0).1,
  λ w own all. f.1 w own all ∙ g.1 w own all,
)

number_single : (es : List Equation) (n i j : ℕ) → GroupNumber Tag (ForcedEqual es) n i → GroupNumber Tag (ForcedEqual es) n j → i ≡ j
number_single es = group_single Tag (ForcedEqual es) (equal_turned es) (equal_joined es)

pub tag_single : (es : List Equation) (n : ℕ) (a b : Told) → TagTold es n a → TagTold es n b → a ≡ b
tag_single es n (told k i) (told l j) x y = ap₂ told (x.1 ∙ sym y.1) (number_single es n i j x.2 y.2)
tag_single es n (told k i) (refused r) x y = absurd (omega (arith, x.0, y.0))
tag_single es n (refused r) (told l j) x y = absurd (omega (arith, x.0, y.0))
tag_single es n (refused r) (refused q) x y = ap refused (x.1 ∙ sym y.1)

-- by a table of the forced-equal tags
module _ (es : List Equation) (ls : List ℕ) (table : Table 1024 (ForcedEqual es) ls) where
  pub tag_named : (n : ℕ) (a : Told) → TagTold es n a → Names tag_telling (told_by ls) a ((told_by ls).tree n)
  tag_named n (told zero i) x = ap tower (number_single es n (group_of ls n) i (group_numbered 1024 (ForcedEqual es) ls table n x.0) x.2)
  tag_named n (told (suc k) i) x = absurd (omega (arith, x.1))
  tag_named n (refused r) x = tt

  pub tag_freest : ∥ Exact es ls ∥₁ → FreestAt tags es (told_by ls)
  tag_freest exact =
      record {
        own = tt;
        all = heights_true es ls (λ v. suc (tally (leads ls) v)) (exact_plain es ls exact);
        free = λ e had true_here.
            let s = between e had in
            (table.agree e.left e.right s.0 s.1).1
            (group_agrees 1024 (ForcedEqual es) ls table e.left e.right s.0 s.1
            (tower_same (group_of ls e.left) (group_of ls e.right) true_here));
      }
