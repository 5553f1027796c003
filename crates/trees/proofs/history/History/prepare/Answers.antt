use Rattle.std.proofs.Common.{◌≡◌, ℕ, ◌+◌, ◌<◌, List, [], ◌∷◌, ◌++◌, OnOk, length, take, drop, vec_items, sym, refl, ap, ◌∙◌, subst, arith, take_at}
use mathlib.Core.HLevel.{hedberg}
use mathlib.Core.Logic.{∥∥₁_elim}
use mathlib.Core.Path.{subst₃}
use native.Mathlib.Decide.{ℕ_discrete}
use Rattle.terms.specs.Sheets.{Row}
use Rattle.unify.specs.Settling.{Tabled}
use Rattle.trees.specs.Layers.{table_at, heads_at, Layered, Wide, Nexts, SettledAt}
use Rattle.trees.specs.Models.{rows_in, stands_in, table_in, heads_in, settled_in}
use Rattle.trees.specs.declared.layer.Layer.{Layer}
use Rattle.trees.proofs.Tabled.{settled_tabled}
use Rattle.trees.proofs.Written.{many, ready_terms, ready_sheet}
use Rattle.trees.proofs.Preparing.{layers_still, wide_still, layer_ahead, ahead_fits, refused_clash}
use Rattle.trees.proofs.history.History.prepare.Goals as goal

pub next_layer-requires-clause-wide : goal.next_layer-requires-clause-wide
next_layer-requires-clause-wide c =
    let self = c.args.self.now in
    let ls = vec_items self.layers in
    let wide : length (table_at (c.len.result + 1) ls) ≡ length (rows_in self) =
    ∥∥₁_elim self.wide (hedberg ℕ_discrete (length (table_at (c.len.result + 1) ls)) (length (rows_in self))) (λ w. w (c.len.result + 1) (omega (arith, c.requires.few, c.len.ensures.count))) in
    ap (λ (ms : List Layer). length (table_at (c.len.result + 1) ms)) c.deref_mut.ensures.value ∙ wide ∙ sym (many self.sheet c.of.result.list.now c.of.ensures)

pub next_layer-requires-clause-tabled : goal.next_layer-requires-clause-tabled
next_layer-requires-clause-tabled c =
    let self = c.args.self.now in
    subst₃ (λ (ms : List Layer) (rs : List Row) (k : ℕ). Tabled rs (table_at k ms) (heads_at k ms)) (sym c.deref_mut.ensures.value) (sym c.of.ensures.rows)
    (let last : length (stands_in self) ≡ c.len.result = omega (arith, self.standing.vec.ok.0, c.len.ensures) in last)
    (settled_tabled (rows_in self) (stands_in self) (table_in self) (heads_in self) (settled_in self))

pub next_layer-requires-clause-ready : goal.next_layer-requires-clause-ready
next_layer-requires-clause-ready c =
    let self = c.args.self.now in ready_terms self.sheet c.of.result.list.now c.of.ensures self.visits self.ready

pub invariant_of-self : goal.invariant_of-self
invariant_of-self c =
    let self = c.args.self.now in
    let ls = vec_items self.layers in
    let us = c.next_layer.new.layers in
    let es = stands_in self in
    let r = c.next_layer.result in
    let ts = c.of.result.list.now in
    let read = c.of.ensures in
    let last : c.len.result ≡ length es = omega (arith, self.standing.vec.ok.0, c.len.ensures) in
    let room : length es + 1 < length ls = omega (arith, c.requires.few, self.full, self.layers.ok.0) in
    let written : us ≡ take self.layers.len (us ++ drop (length us) ls) = sym (take_at us (drop (length us) ls) self.layers.len (c.next_layer.auto.layers ∙ c.deref_mut.ensures.len)) in
    let next : Nexts (rows_in self) (length es) c.args.e ls us r
    = subst₃ (λ (rs : List Row) (k : ℕ) (ms : List Layer). Nexts rs k c.args.e ms us r) read.rows last c.deref_mut.ensures.value c.next_layer.ensures.next in
    record {
      full = self.full;
      wide = subst (λ (ms : List Layer). ∥ Wide (rows_in self) ms 257 ∥₁) written (wide_still self.sheet es c.args.e ls us r room next self.settled 257 self.wide);
      ready = ∣ ready_sheet self.sheet ts read c.next_layer.new.visits c.next_layer.ensures.ready ∣₁;
      settled = subst (λ (ms : List Layer). ∥ Layered (rows_in self) es ms ∥₁) written (layers_still self.sheet es c.args.e ls us r room next self.settled);
    }

pub returns : goal.returns
returns c =
    let self = c.args.self.now in
    let ls = vec_items self.layers in
    let us = c.next_layer.new.layers in
    let es = stands_in self in
    let r = c.next_layer.result in
    let ts = c.of.result.list.now in
    let read = c.of.ensures in
    let last : c.len.result ≡ length es = omega (arith, self.standing.vec.ok.0, c.len.ensures) in
    let room : length es + 1 < length ls = omega (arith, c.requires.few, self.full, self.layers.ok.0) in
    let written : us ≡ take self.layers.len (us ++ drop (length us) ls) = sym (take_at us (drop (length us) ls) self.layers.len (c.next_layer.auto.layers ∙ c.deref_mut.ensures.len)) in
    let next : Nexts (rows_in self) (length es) c.args.e ls us r
    = subst₃ (λ (rs : List Row) (k : ℕ) (ms : List Layer). Nexts rs k c.args.e ms us r) read.rows last c.deref_mut.ensures.value c.next_layer.ensures.next in
    record {
      sheet = refl;
      standing = refl;
      fits = ahead_fits self.sheet es c.args.e ls us r room next self.settled;
      prepared = subst (λ (ms : List Layer). OnOk r ∥ SettledAt (rows_in self) (es ++ (c.args.e ∷ [])) (length es + 1) ms ∥₁) written (layer_ahead self.sheet es c.args.e ls us r room next self.settled);
      clash = refused_clash self.sheet es c.args.e ls us r room next self.settled c.requires.had;
    }
