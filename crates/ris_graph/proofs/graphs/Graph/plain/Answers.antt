use Rattle.std.proofs.Common.{◌≡◌, ◌+◌, ℕ, suc, List, ◌++◌, length, Result, Ok, Err, OnErr, subst, sym, ap, arith, ◌∙◌, length-append}
use Rattle.ris_base.specs.declared.graphs.Triple.{Triple}
use Rattle.ris_graph.specs.GraphView.{GraphView}
use Rattle.ris_graph.specs.Listings.{vertices_at, triples_at}
use Rattle.ris_graph.specs.Sound.{IsSound}
use Rattle.ris_graph.specs.Ticks.{ticked}
use Rattle.ris_graph.proofs.ListedGraph.{vertices_below, triples_below, listed, IsOf-listed, length-triples, length-below-le}
use Rattle.ris_graph.proofs.ListingLemmas.{ticked-zero, ticked-ticked, IsRise-after}
use Rattle.ris_graph.proofs.graphs.Graph.plain.Goals as goal

pub loop-x-init : goal.loop-x-init
loop-x-init g c = record {
  vertices = c.new-vertices.ensures;
  triples = c.new-triples.ensures;
  ticks = sym (ap (λ (l : List Triple). ticked (g.M.Meter.ticks c.args.meter.now) (length l)) c.new-triples.ensures ∙ ticked-zero (g.M.Meter.ticks c.args.meter.now));
}

-- one more vertex number
next : (n : ℕ) → n + 1 ≡ suc n
next n = omega arith

pub loop-x-preserved : goal.loop-x-preserved
loop-x-preserved g c =
    let v : GraphView = c.args.self.now in
    let x = c.loop-x.x in
    let before = c.loop-x.invariant in
    let e = c.in_ok-list.ensures in
    let a = g.M.Meter.ticks c.args.meter.now in
    record {
      vertices = e.vertices ∙ ap (λ (l : List ℕ). l ++ vertices_at v x) before.vertices ∙ ap (vertices_below v) (sym (next x));
      triples = e.triples ∙ ap (λ (l : List Triple). l ++ triples_at v x) before.triples ∙ ap (triples_below v) (sym (next x));
      ticks = e.ticks ∙ ap (λ n. ticked n (length (triples_at v x))) before.ticks ∙ ticked-ticked a (length c.loop-x.triples) (length (triples_at v x))
          ∙ ap (ticked a) (sym (ap length e.triples ∙ length-append c.loop-x.triples (triples_at v x)));
    }

-- what holds whatever a call answers
on_err_always : {T E : Type 0} (r : Result T E) (P : Type 0) → P → OnErr r P
on_err_always (Ok x) P p = tt
on_err_always (Err e) P p = p

pub returns-in_err-list-clause-err : goal.returns-in_err-list-clause-err
returns-in_err-list-clause-err g c =
    let v : GraphView = c.args.self.now in
    let x = c.loop-x.x in
    let lt = c.loop-x-test.true in
    let sound : IsSound v = subst IsSound c.self.view_is c.self.invariant in
    let places : length c.self.inside.present.items ≡ length v.present = ap (λ (w : GraphView). length w.present) c.self.view_is in
    let before = c.loop-x.invariant in
    on_err_always c.from_residual.result _ (λ p of. (
    let whole = length-triples v p (listed v) of (IsOf-listed v sound) in
    let size = ap length before.triples in
    let most = length-below-le v (suc x) (length v.present) (omega arith) in
    let next = length-append (triples_below v x) (triples_at v x) in
    IsRise-after (g.M.Meter.ticks c.args.meter.now) (g.M.Meter.ticks c.loop-x.meter) (g.M.Meter.ticks c.list.new.meter) (length c.loop-x.triples) (length (triples_at v x)) (length p.triples)
    before.ticks c.in_err-list.ensures.rise (omega arith)))

pub returns-clause-of : goal.returns-clause-of
returns-clause-of g c =
    let v : GraphView = c.args.self.now in
    let past = c.loop-x-test.false in
    let end = c.loop-x.auto.x-end in
    let places : length c.self.inside.present.items ≡ length v.present = ap (λ (w : GraphView). length w.present) c.self.view_is in
    let sound : IsSound v = subst IsSound c.self.view_is c.self.invariant in
    let all : c.loop-x.x ≡ length v.present = omega arith in
    let vertices : c.loop-x.vertices ≡ (listed v).vertices = c.loop-x.invariant.vertices ∙ ap (vertices_below v) all in
    let triples : c.loop-x.triples ≡ (listed v).triples = c.loop-x.invariant.triples ∙ ap (triples_below v) all in
    let format : c.self.inside.format ≡ v.format = ap (λ (w : GraphView). w.format) c.self.view_is in
    rw (vertices, triples, format) (IsOf-listed v sound)
