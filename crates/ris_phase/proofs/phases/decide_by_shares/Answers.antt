use Rattle.std.proofs.Common.{◌≡◌, ◌+◌, ◌<◌, ℕ, List, length, map, get_or, ◌∙◌, sym, ap, subst, arith, rules}
use Rattle.std.proofs.lemmas.List.{get_or-map, length-map, same_lists}
use Rattle.ris_graph.specs.StripeView.{StripeView}
use Rattle.ris_phase.specs.Cells.{IsUndecided, phased}
use Rattle.ris_phase.proofs.CellLemmas.{all-open}
use Rattle.ris_phase.proofs.TurnLemmas.{refill-whole}
use Rattle.ris_phase.proofs.phases.decide_by_shares.Goals as goal

pub for_each_chunk_mut-requires-clause-accepts : goal.for_each_chunk_mut-requires-clause-accepts
for_each_chunk_mut-requires-clause-accepts g c κs within start p chunk =
    let fresh = c.requires.fresh in
    let value = c.stripes_mut.ensures.value in
    let size = c.stripes_mut.ensures.stripes in
    let bound = chunk.in_bounds in
    let some = chunk.nonempty in (
      (omega arith),
      (search rules),
      λ k d lt. (let len = ap length value in
          subst IsUndecided (sym (chunk.elements k d lt ∙ ap (λ xs. get_or xs (start + k) d) value)) (all-open fresh.graph fresh.jobs c.args.loose.now fresh.of (start + k) d (omega arith))),
    )

pub returns : goal.returns
returns g c =
    let l = c.args.loose.now in
    let f = phased (g.J.Judge.forests c.args.judge.now) in
    let old = c.stripes_mut.result.now in
    let new = c.for_each_chunk_mut.new.s in
    let value = c.stripes_mut.ensures.value in
    let len = ap length value in
    let size = c.for_each_chunk_mut.auto.s in
    let each : (k : ℕ) (d : StripeView) → k < length new → get_or new k d ≡ get_or (map f l.stripes) k d = λ k d lt.
    let within : k < length c.stripes_mut.result.now = omega arith in
    let inside : k < length c.args.loose.now.stripes = omega arith in
    let at = (c.for_each_chunk_mut.ensures.by_index k d within).1 in
    sym at.new_element ∙ at.call at.offset d at.offset_in_chunk ∙ ap f at.old_element ∙ ap (λ xs. f (get_or xs k d)) value ∙ sym (get_or-map f l.stripes k d d inside)
    in
    let same = same_lists new (map f l.stripes) (size ∙ len ∙ sym (length-map l.stripes f)) each in
    ap (λ (ss : List StripeView). record l { stripes = ss }) (refill-whole l.stripes new (size ∙ len) ∙ same)
