-- Judging the parts one after another.
use Rattle.std.proofs.Common.{◌≡◌, ℕ, suc, ◌+◌, ◌<◌, List, [], ◌∷◌, ◌++◌, length, take, drop, Some, Ok, ◌↔◌, inl, inr, arith, refl, sym, subst, ap, ◌∙◌, add-one}
use Rattle.std.specs.HashMap.{IsEmpty}
use Rattle.std.specs.List.{Contains, slice_get}
use Rattle.std.specs.Result.{result_err}
use Rattle.std.specs.Cmp.{both_ways}
use Rattle.std.proofs.Math.Seq.{drop-cons}
use Rattle.std.proofs.lemmas.List.{take_more, take_all, drop_all}
use Rattle.std.proofs.lemmas.List.Elements.{Contains-append_left, Contains-push, Contains-push_cases}
use Rattle.std.proofs.lemmas.Option.{get_or_from_slice_get, slice_get_within}
use Rattle.ris_base.specs.Effect.{Objection, changed, objection}
use Rattle.ris_base.specs.Falling.{Drops}
use Rattle.ris_base.specs.Graph.{has_vertex}
use Rattle.ris_base.specs.Requests.{does_from, refusal_of}
use Rattle.ris_base.specs.declared.graphs.PlainGraph.{PlainGraph}
use Rattle.ris_base.specs.declared.updates.Update.{Update}
use Rattle.ris_base.specs.declared.updates.Update.TheVariants.{DelV}
use Rattle.ris_base.proofs.EffectLemmas.{HasVertex-from_test, does-changed, does-refused, has_vertex-true}
use Rattle.ris_base.proofs.ListLemmas.{Contains-none}
use Rattle.ris_base.proofs.RequestLemmas.{does_from-accepted, does_from-none, does_from-refused, entered-accepted}
use Rattle.ris_graph.specs.GraphView.{GraphView, IsOf, vertex_in}
use Rattle.ris_txn.specs.Faults.{refusal_at}
use Rattle.ris_txn.specs.Judging.{IsFault, IsFree, IsJudged, IsJudging, IsStep}
use Rattle.ris_txn.specs.Overlays.{Shows, triple_note, vertex_note}
use Rattle.ris_txn.specs.Refusals.{IsRefusal}
use Rattle.ris_txn.specs.declared.faults.Fault.{Fault}
use Rattle.ris_txn.specs.declared.faults.Fault.TheVariants as fault
use Rattle.ris_txn.specs.declared.overlays.Overlay.{Overlay}

-- a graph's vertices by their tests
pub vertex_in-of : (g : GraphView) (p : PlainGraph) → IsOf g p → (x : ℕ) → vertex_in g x ≡ has_vertex p x
vertex_in-of g p of x = both_ways (vertex_in g x) (has_vertex p x) (λ h. has_vertex-true p x ((of.vertices x).0 h)) (λ h. (of.vertices x).1 (HasVertex-from_test p x h))

-- without notes, an overlay shows the graph itself
pub judging-none : (g : GraphView) (parts : List Update) (o : Overlay) → IsEmpty o.vertices → IsEmpty o.triples → IsJudging g parts 0 o
unfolding vertex_note triple_note
judging-none g parts o vertices triples = record {
  below = record { vertices = λ x. rw vertices (omega arith); triples = λ t. rw triples (omega arith) };
  shows = λ p of. record {
    graph = p;
    rest = refl;
    shows = record { format = of.format; vertices = λ x. rw vertices (vertex_in-of g p of x); triples = λ t. rw (vertices, triples) (of.triples t) };
  };
  dropped = λ x. (λ h. absurd (let none : ¬ (0 < 0) = λ n. omega arith in none (rw vertices at h)), λ h. absurd (Contains-none (DelV x) h));
  before = λ t. rw triples refl;
}

module _ (g : GraphView) (parts : List Update) (k : ℕ) (part : Update) (at : slice_get parts k ≡ Some part) where
  -- the parts from this one on
  from_here : drop k parts ≡ part ∷ drop (k + 1) parts
  from_here =
      let lt = slice_get_within parts k part at in
      drop-cons parts k part lt ∙ ap (λ u. u ∷ drop (suc k) parts) (get_or_from_slice_get parts k part part at) ∙ ap (λ n. part ∷ drop n parts) (sym (add-one k))

  -- the parts up to this one
  up_to_here : take (k + 1) parts ≡ take k parts ++ part ∷ []
  up_to_here =
      let lt = slice_get_within parts k part at in
      take_more parts k part lt ∙ ap (λ u. take k parts ++ u ∷ []) (get_or_from_slice_get parts k part part at)

  -- a part that is taken
  pub judging-more : (old new : Overlay) → IsJudging g parts k old → IsStep g old new part (k + 1) → IsFree objection g old part → IsJudging g parts (k + 1) new
  judging-more old new judging step free = record {
    below = step.below;
    shows = λ p of. (let before = judging.shows p of in
        let graph = before.graph in
        record {
          graph = changed graph part;
          rest = before.rest ∙ ap (does_from (k + 1) graph) from_here
              ∙ does_from-accepted (k + 1) graph (changed graph part) part (drop (k + 1) parts) (does-changed graph part (free graph before.shows));
          shows = step.shows graph before.shows;
        });
    dropped = λ x. (
      λ h. subst (λ (us : List Update). Contains us (DelV x)) (sym up_to_here) (elim ((step.dropped x).0 h) [
        | inl before ↦ Contains-append_left (take k parts) (part ∷ []) (DelV x) ((judging.dropped x).0 before)
        | inr is ↦ subst (λ (u : Update). Contains (take k parts ++ part ∷ []) u) is (Contains-push (take k parts) part)
      ]),
      λ h. (step.dropped x).1 (elim (Contains-push_cases (take k parts) part (DelV x) (subst (λ (us : List Update). Contains us (DelV x)) up_to_here h)) [
        | inl before ↦ inl ((judging.dropped x).1 before)
        | inr is ↦ inr is
      ]),
    );
    before = λ t. step.before t ∙ judging.before t;
  }

  -- a part that is refused decides
  refused : (o : Overlay) → IsJudging g parts k o → (p : PlainGraph) → IsOf g p → (why : Objection)
      → ((q : PlainGraph) → Shows g o q → objection q part ≡ Some why) → refusal_of p parts ≡ Some (record { part = k + 1; why = why })
  refused o judging p of why objects =
      let before = judging.shows p of in
      let graph = before.graph in
      ap result_err (before.rest ∙ ap (does_from (k + 1) graph) from_here ∙ does_from-refused (k + 1) graph part (drop (k + 1) parts) why (does-refused graph part why (objects graph before.shows)))

  -- a part that isn't taken gives the refusal of the request, or memory was wanted
  pub judging-fault : (front : ℕ) (o : Overlay) (f : Fault) → IsJudging g parts k o → IsFault objection g o part f → (p : PlainGraph) → IsOf g p
      → IsRefusal p parts front (refusal_at front (k + 1) f)
  judging-fault front o (fault.Limit given) judging h p of = inr (record { part = k + 1; why = Objection.Limit given }, refused o judging p of (Objection.Limit given) h, refl)
  judging-fault front o (fault.NoVertex id) judging h p of = inr (record { part = k + 1; why = Objection.NoVertex id }, refused o judging p of (Objection.NoVertex id) h, refl)
  judging-fault front o fault.NoEdge judging h p of = inr (record { part = k + 1; why = Objection.NoEdge }, refused o judging p of Objection.NoEdge h, refl)
  judging-fault front o fault.NoMemory judging h p of = inl refl

-- where all parts are taken, the request is judged
pub judged-all : (g : GraphView) (parts : List Update) (k : ℕ) (o : Overlay) → k ≡ length parts → IsJudging g parts k o → IsJudged g parts o
judged-all g parts k o all judging =
    let nothing : drop k parts ≡ [] = drop_all k parts (omega arith) in
    let whole : take k parts ≡ parts = take_all k parts (omega arith) in
    let done : (p : PlainGraph) (of : IsOf g p) → does_from 1 p parts ≡ Ok (judging.shows p of).graph
    = λ p of. (judging.shows p of).rest ∙ ap (does_from (k + 1) (judging.shows p of).graph) nothing ∙ does_from-none (k + 1) (judging.shows p of).graph in
    record {
      accepted = λ p of. ap result_err (done p of);
      shows = λ p of. subst (λ (q : PlainGraph). Shows g o q) (sym (entered-accepted p (judging.shows p of).graph parts (done p of))) (judging.shows p of).shows;
      dropped = λ x. subst (λ (us : List Update). (0 < (vertex_note g o x).dropped) ↔ Drops us x) whole (judging.dropped x);
      before = judging.before;
    }
