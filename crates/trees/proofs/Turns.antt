-- The turns of a visit, one by one. Assumes nothing.
use Rattle.std.proofs.Common.{◌≡◌, ℕ, ◌+◌, ◌-◌, ◌<◌, ◌≤◌, Bool, true, false, List, [], map, length, get_or, take, set, sym, refl, ap, ◌∙◌, subst, inl, inr, arith, length-take, get_or-take}
use Rattle.std.proofs.lemmas.List.{get_or-map, length-map, ext_get_or}
use Rattle.std.proofs.lemmas.Bool.{cases_eq}
use Rattle.logic.specs.Trees.{Tree}
use Rattle.terms.specs.Sheets.{Row, row, arguments, Compound as IsCompound, Sheet, Writable}
use Rattle.terms.specs.Values.{forest, Solves}
use Rattle.classes.specs.Classes.{class, Lowest}
use Rattle.unify.specs.declared.Mark.{Mark}
use Rattle.unify.specs.Merging.{Tops}
use Rattle.unify.specs.Visits.{mark, unseen, number, Numbered, Entry, Onward, Visits, AllNumbered, size, sizes, Inside}
use Rattle.unify.specs.Settling.{number_of, AllVisited}
use Rattle.unify.proofs.Lists.{never, over_of}
use Rattle.unify.proofs.Merges.{never_false}
use Rattle.unify.proofs.Visits.{mark_other, begun_fresh, unseen_less, unseen_within, start_visited, onward_refl, onward_trans, begin_visited, finish_onward, finish_numbered, size_argument}
use Rattle.sheet.specs.declared.rows.Term.{Term}
use Rattle.sheet.specs.declared.rows.Compound.{Compound}
use Rattle.trees.specs.Terms.{Orderly, rows, arguments_of}
use Rattle.trees.specs.Places.{Placed, Visiting, Writing, Reached}
use Rattle.trees.proofs.Ways.{argument_term}

-- the numbers of a compound term's arguments, cut to its arity
pub numbers_list : (c : Compound) (ns : List ℕ) (g : ℕ → ℕ) → length ns ≡ 8 → ((i : ℕ) → i < c.arity → get_or ns i 0 ≡ g (get_or c.arguments i 0))
    → take (c.arity - 0) ns ≡ map g (take c.arity c.arguments)
numbers_list c ns g eight each =
    let short : c.arity - 0 ≡ c.arity = omega arith in
    let xs = take c.arity c.arguments in
    let long : length xs ≡ c.arity = omega (arith, length-take c.arity c.arguments, c.small, c.long) in
    ap (λ (n : ℕ). take n ns) short
    ∙ ext_get_or 0 (take c.arity ns) (map g xs) (omega (arith, length-take c.arity ns, length-map xs g, c.small))
    (λ i l. let within : i < c.arity = omega (arith, length-take c.arity ns) in
    get_or-take c.arity ns i 0 within ∙ each i within ∙ ap g (sym (get_or-take c.arity c.arguments i 0 within)) ∙ sym (get_or-map g xs i 0 0 (omega arith)))

-- a head can be written over the numbers of its arguments
pub writable_head : (ts : List Term) (cs : List ℕ) (ms : List Mark) (ar : List ℕ) (P : List Row) (c h s : ℕ) (xs : List ℕ) → Writing ts cs ms ar P c h
    → row (rows ts) h ≡ Row.over s xs → Writable ar (length P) s (map (number_of cs ms) xs)
writable_head ts cs ms ar P c h s xs writing e =
    let w = writing.sheet.rows h s xs (omega (arith, writing.terms.many, writing.head)) e in
    let same : arguments_of ts h ≡ xs = ap arguments e in
    let g = number_of cs ms in
    record {
      symbol = w.symbol;
      arity = length-map xs g ∙ w.arity;
      lower = λ i l.
          let within : i < length xs = omega (arith, length-map xs g) in
          omega (arith, get_or-map g xs i 0 0 within, writing.numbers i (omega (arith, ap length same)), ap (λ (ys : List ℕ). g (get_or ys i 0)) same);
    }

pub over_same : (r : Row) (s q : ℕ) (xs ys : List ℕ) → r ≡ Row.over s xs → r ≡ Row.over q ys → (s ≡ q) × (xs ≡ ys)
over_same r s q xs ys e f = (cc, cc)

-- one visit
module _ (ts : List Term) (cs hs : List ℕ) (ms : List Mark) (ar : List ℕ) (Q : List Row) (visiting : Visiting ts cs hs ms ar Q) (c : ℕ) (lc : c < length ts) (own : class cs c ≡ c) where
  here : c < length (rows ts)
  here = omega (arith, visiting.terms.many)

  placed_at : c < length ms
  placed_at = omega (arith, here, visiting.visited.long)

  -- a class whose visit is begun stands inside itself
  pub visit_begun : Inside (rows ts) (class cs) ms c 1 → mark ms c ≡ Mark.Begun → Visits (rows ts) (class cs) hs ms Q ms Q (Numbered ms c) false
  visit_begun inside begun =
      record {
        onward = λ e. never e;
        reached = λ e. never e;
        stuck = λ _ v fits respects. omega (arith, inside v fits respects c here begun);
      }

  module _ (was : mark ms c ≡ Mark.Unseen) where
    -- the marks with the class begun
    abbrev begun : List Mark
    begun = set ms c Mark.Begun

    pub begin_less : unseen begun < unseen ms
    begin_less = unseen_less ms c Mark.Begun placed_at begun_fresh was

    pub begin_visiting : Visiting ts cs hs begun ar Q
    begin_visiting =
        record {
          terms = visiting.terms;
          lowest = visiting.lowest;
          tops = visiting.tops;
          long = visiting.long;
          sheet = visiting.sheet;
          visited = begin_visited (rows ts) (class cs) hs ms Q c here was visiting.visited;
          room = omega (arith, visiting.room, begin_less);
        }

    pub begin_room : length Q < 1024
    begin_room = omega (arith, visiting.room, begin_less, visiting.terms.few, visiting.terms.many)

    -- the class has only names
    pub visit_name : length ts ≤ get_or hs c 0 → (ns : List Mark) (S : List Row) → Placed begun Q ns S c Row.name → Visits (rows ts) (class cs) hs ms Q ns S (Numbered ns c) true
    visit_name none ns S placed =
        let onward = onward_refl (rows ts) (class cs) hs begun Q begin_visiting.visited in
        let entry : Entry (rows ts) (class cs) hs begun S c placed.k
        = record {
          within = placed.within;
          name = λ _. placed.is;
          numbers = [];
          compound = λ s xs small e. absurd (omega (arith, visiting.terms.many));
          long = λ small. absurd (omega (arith, visiting.terms.many));
          each = λ i small l. absurd (omega (arith, visiting.terms.many));
        } in
        subst (λ (os : List Mark). Visits (rows ts) (class cs) hs ms Q os S (Numbered os c) true) (sym placed.marked)
        (record {
          onward = λ _. finish_onward (rows ts) (class cs) hs ms begun Q Q S c placed.k here visiting.visited.long was onward placed.rows placed.more placed.one entry (λ _. placed.new refl);
          reached = λ _. finish_numbered (rows ts) (class cs) hs ms begun Q Q S c placed.k here visiting.visited.long was onward placed.rows placed.more placed.one entry (λ _. placed.new refl);
          stuck = λ e. never_false e;
        })

    -- the class has a head
    module _ (small : get_or hs c 0 < length ts) where
      abbrev h : ℕ
      h = get_or hs c 0

      top : (class cs h ≡ c) × IsCompound (row (rows ts) h)
      top = visiting.tops.some c here own (omega (arith, visiting.terms.many))

      -- the head stands for its class among what is begun
      pub begin_inside : Inside (rows ts) (class cs) ms c 1 → Inside (rows ts) (class cs) begun h 0
      begin_inside inside v fits respects d ld e =
          let same : v h ≡ v c = respects h c (omega (arith, visiting.terms.many)) here (top.0 ∙ sym own) in
          let sizes_same : size (v h) ≡ size (v c) = ap size same in
          elim (cases_eq d c) [
            | inl it ↦ omega (arith, sizes_same, ap (λ (x : ℕ). size (v x)) it)
            | inr other ↦ omega (arith, sizes_same, inside v fits respects d ld (sym (mark_other ms c Mark.Begun d other) ∙ e))
          ]

      module _ (ns : List Mark) (P : List Row) (onward : Onward (rows ts) (class cs) hs begun Q ns P) (numbered : AllNumbered (class cs) ns (arguments_of ts h) 0) where
        argument_done : (i : ℕ) → i < length (arguments_of ts h) → mark ns (class cs (get_or (arguments_of ts h) i 0)) ≡ Mark.Done (number_of cs ns (get_or (arguments_of ts h) i 0))
        argument_done i l = numbered i (omega arith) l

        pub head_writing : (br : List ℕ) → br ≡ ar → Writing ts cs ns br P c h
        head_writing br same =
            record {
              terms = visiting.terms;
              lowest = visiting.lowest;
              sheet = subst (λ (xs : List ℕ). Sheet xs (rows ts)) (sym same) visiting.sheet;
              long = onward.visited.long;
              class = omega (arith, here, onward.visited.long);
              head = small;
              room = omega (arith, onward.count, begin_less, visiting.room, visiting.terms.few, visiting.terms.many);
              numbers = λ i l.
                  let x = get_or (arguments_of ts h) i 0 in
                  let lx = argument_term ts visiting.terms h i (omega (arith, visiting.terms.many)) l in
                  (onward.visited.done (class cs x) (number_of cs ns x) (omega (arith, visiting.lowest.low x lx)) (argument_done i l)).within;
            }

        pub visit_head : (os : List Mark) (S : List Row) → ((s : ℕ) (xs : List ℕ) → row (rows ts) h ≡ Row.over s xs → Placed ns P os S c (Row.over s (map (number_of cs ns) xs)))
            → Visits (rows ts) (class cs) hs ms Q os S (Numbered os c) true
        visit_head os S placing =
            let o = over_of (row (rows ts) h) top.1 in
            let xs = arguments_of ts h in
            let placed = placing o.0 xs o.1 in
            let entry : Entry (rows ts) (class cs) hs ns S c placed.k
            = record {
              within = placed.within;
              name = λ none. absurd (omega (arith, visiting.terms.many));
              numbers = map (number_of cs ns) xs;
              compound = λ s ys _ e. let both = over_same (row (rows ts) h) o.0 s xs ys o.1 e in placed.is ∙ ap (λ (x : ℕ). Row.over x (map (number_of cs ns) xs)) both.0;
              long = λ _. length-map xs (number_of cs ns);
              each = λ i _ l. argument_done i l ∙ ap Mark.Done (sym (get_or-map (number_of cs ns) xs i 0 0 l));
            } in
            let clear : row S placed.k ≡ Row.name → length P ≤ placed.k
            = λ e. let both : Row.name ≡ Row.over o.0 (map (number_of cs ns) xs) = sym e ∙ placed.is in let z : ◌≡◌ {A = ℕ} 0 1 = cc in absurd (omega arith) in
            subst (λ (qs : List Mark). Visits (rows ts) (class cs) hs ms Q qs S (Numbered qs c) true) (sym placed.marked)
            (record {
              onward = λ _. finish_onward (rows ts) (class cs) hs ms ns Q P S c placed.k here visiting.visited.long was onward placed.rows placed.more placed.one entry clear;
              reached = λ _. finish_numbered (rows ts) (class cs) hs ms ns Q P S c placed.k here visiting.visited.long was onward placed.rows placed.more placed.one entry clear;
              stuck = λ e. never_false e;
            })

-- the visit of the arguments of a compound term from a place on
module _ (ts : List Term) (cs hs : List ℕ) (ms : List Mark) (ar : List ℕ) (Q : List Row) (visiting : Visiting ts cs hs ms ar Q) (h place : ℕ) (lh : h < length ts)
    (within : place < length (arguments_of ts h)) where
  -- the argument at the place
  abbrev x : ℕ
  x = get_or (arguments_of ts h) place 0

  argument_below : x < length (rows ts)
  argument_below = argument_term ts visiting.terms h place (omega (arith, visiting.terms.many)) within

  pub next_class : (class cs x < length ts) × (class cs (class cs x) ≡ class cs x)
  next_class = (omega (arith, argument_below, visiting.terms.many, visiting.lowest.low x argument_below), visiting.lowest.own x argument_below)

  -- its class stands inside the term
  pub next_inside : Inside (rows ts) (class cs) ms h 0 → Inside (rows ts) (class cs) ms (class cs x) 1
  next_inside inside v fits respects d ld e =
      let same : v (class cs x) ≡ v x = respects (class cs x) x (omega (arith, next_class.0, visiting.terms.many)) argument_below next_class.1 in
      let tree = over_tree v fits (row (rows ts) h) refl in
      omega (arith, ap size same, tree, inside v fits respects d ld e)
    where
      over_tree : (u : ℕ → Tree) → Solves (rows ts) u → (r : Row) → row (rows ts) h ≡ r → size (u x) + 1 ≤ size (u h)
      over_tree u fit Row.name e = absurd (omega (arith, within, ap (λ (p : Row). length (arguments p)) e))
      over_tree u fit (Row.over s xs) e =
          let list : arguments_of ts h ≡ xs = ap arguments e in
          let lt : place < length xs = omega (arith, within, ap length list) in
          let less = size_argument u xs place lt in
          let whole : size (u h) ≡ sizes (forest (map u xs)) + 1 = ap size (fit h s xs (omega (arith, visiting.terms.many)) e) ∙ (let k : size (Tree.node s (forest (map u xs))) ≡ sizes (forest (map u xs)) + 1 = omega arith in k) in
          omega (arith, whole, less, ap (λ (ys : List ℕ). size (u (get_or ys place 0))) list)

  module _ (ns : List Mark) (P : List Row) (onward : Onward (rows ts) (class cs) hs ms Q ns P) where
    pub next_visiting : (br : List ℕ) → br ≡ ar → Visiting ts cs hs ns br P
    next_visiting br same =
        record {
          terms = visiting.terms;
          lowest = visiting.lowest;
          tops = visiting.tops;
          long = visiting.long;
          sheet = subst (λ (xs : List ℕ). Sheet xs (rows ts)) (sym same) visiting.sheet;
          visited = onward.visited;
          room = omega (arith, onward.count, visiting.room);
        }

    pub rest_inside : Inside (rows ts) (class cs) ms h 0 → Inside (rows ts) (class cs) ns h 0
    rest_inside inside v fits respects d ld e = inside v fits respects d ld (onward.begun d e)

    -- the argument at the place, and then those after it
    pub visit_rest : Numbered ns (class cs x) → (os : List Mark) (S : List Row) (r : Bool)
        → Visits (rows ts) (class cs) hs ns P os S (AllNumbered (class cs) os (arguments_of ts h) (place + 1)) r
        → Visits (rows ts) (class cs) hs ms Q os S (AllNumbered (class cs) os (arguments_of ts h) place) r
    visit_rest numbered os S r rest =
        record {
          onward = λ yes. onward_trans (rows ts) (class cs) hs ms ns os Q P S onward (rest.onward yes);
          reached = λ yes i from l.
              elim (cases_eq i place) [
                | inl same ↦
                    let kept : mark os (class cs x) ≡ Mark.Done (number (mark ns (class cs x))) = (rest.onward yes).keeps (class cs x) (number (mark ns (class cs x))) numbered in
                    let done : Numbered os (class cs x) = kept ∙ ap (λ (m : Mark). Mark.Done (number m)) (sym kept) in
                    subst (λ (j : ℕ). Numbered os (class cs (get_or (arguments_of ts h) j 0))) (sym same) done
                | inr other ↦ rest.reached yes i (omega arith) l
              ];
          stuck = rest.stuck;
        }

-- every class in turn
module _ (ts : List Term) (cs hs : List ℕ) where
  pub reached_start : Orderly ts → Lowest (length (rows ts)) cs → Tops (rows ts) (class cs) hs → length hs ≡ length (rows ts)
      → (ms : List Mark) (ar br : List ℕ) (Q : List Row) → Sheet ar (rows ts) → br ≡ ar → Q ≡ [] → length ms ≡ length (rows ts)
      → ((c : ℕ) → c < length ms → mark ms c ≡ Mark.Unseen) → Reached ts cs hs ms br Q 0
  reached_start terms lowest tops long ms ar br Q sheet same empty wide clean =
      record {
        visiting = record {
          terms = terms;
          lowest = lowest;
          tops = tops;
          long = long;
          sheet = subst (λ (xs : List ℕ). Sheet xs (rows ts)) (sym same) sheet;
          visited = start_visited (rows ts) (class cs) hs ms Q wide clean;
          room = omega (arith, ap length empty, unseen_within ms);
        };
        calm = λ d ld e. begun_fresh (sym e ∙ clean d (omega arith));
        all = λ c l own. absurd (omega arith);
      }

  module _ (ms : List Mark) (ar : List ℕ) (Q : List Row) (n : ℕ) (reached : Reached ts cs hs ms ar Q n) where
    pub reached_inside : (c : ℕ) → Inside (rows ts) (class cs) ms c 1
    reached_inside c v fits respects d ld e = absurd (reached.calm d ld e)

    pub reached_skip : (class cs n ≡ n → ⊥) → Reached ts cs hs ms ar Q (n + 1)
    reached_skip other =
        record {
          visiting = reached.visiting;
          calm = reached.calm;
          all = λ c l own. elim (cases_eq c n) [
            | inl same ↦ absurd (other (ap (class cs) (sym same) ∙ own ∙ same))
            | inr less ↦ reached.all c (omega arith) own
          ];
        }

    pub reached_visit : (ns : List Mark) (br : List ℕ) (P : List Row) → br ≡ ar → Onward (rows ts) (class cs) hs ms Q ns P → Numbered ns n → Reached ts cs hs ns br P (n + 1)
    reached_visit ns br P same onward numbered =
        let old = reached.visiting in
        record {
          visiting = record {
            terms = old.terms;
            lowest = old.lowest;
            tops = old.tops;
            long = old.long;
            sheet = subst (λ (xs : List ℕ). Sheet xs (rows ts)) (sym same) old.sheet;
            visited = onward.visited;
            room = omega (arith, onward.count, old.room);
          };
          calm = λ d ld e. reached.calm d ld (onward.begun d e);
          all = λ c l own. elim (cases_eq c n) [
            | inl it ↦ subst (λ (k : ℕ). Numbered ns k) (sym it) numbered
            | inr less ↦
                let kept : mark ns c ≡ Mark.Done (number (mark ms c)) = onward.keeps c (number (mark ms c)) (reached.all c (omega arith) own) in
                kept ∙ ap (λ (m : Mark). Mark.Done (number m)) (sym kept)
          ];
        }

    pub reached_all : length ts ≤ n → AllVisited (rows ts) cs hs ms Q (length (rows ts))
    reached_all end =
        record {
          visited = reached.visiting.visited;
          count = omega (arith, reached.visiting.room);
          all = λ c l own. reached.all c (omega (arith, reached.visiting.terms.many)) own;
        }
