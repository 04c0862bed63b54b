-- One row more for the change of the next number.
use Rattle.std.proofs.Common.{◌≡◌, ◌∷◌, ◌++◌, ℕ, ◌+◌, List, drop, get_or, sym, subst, ap, ◌∙◌}
use Rattle.std.specs.Cmp.{nat_eq_equiv}
use Rattle.std.specs.List.{All}
use Rattle.std.specs.Map.{keys_of}
use Rattle.std.proofs.lemmas.List.{drop_more}
use Rattle.std.proofs.lemmas.List.Elements.{All-push}
use Rattle.std.proofs.lemmas.Map.Entries.{lookup_from_place}
use Rattle.std.proofs.lemmas.Option.{get_or_from_slice_get, slice_get_within}
use Rattle.ris_forest.specs.Cells.{forest_of}
use Rattle.ris_forest.specs.declared.deltas.DeltaRow.{DeltaRow}
use Rattle.ris_repair.specs.Fews.{change_in}
use Rattle.ris_repair.specs.Stages.{IsRowOf}
use Rattle.ris_repair.specs.declared.stores.Change.{Change}
use Rattle.ris_repair.proofs.SortLemmas.{keys_step, row_made, vertices_of}
use Rattle.ris_repair.proofs.deltas.few_rows.Goals as goal

pub loop-number-preserved : goal.loop-number-preserved
loop-number-preserved g c =
    let F = forest_of c.args.forest.now.cells in
    let few = c.args.changes.now in
    let n = c.loop-number.number in
    let pair = c.at-vertex.result in
    let row = c.row_of.result in
    let made = row_made F (change_in few) row pair.0 pair.1 (lookup_from_place nat_eq_equiv few n pair.0 pair.1 c.len.ensures.once c.at-vertex.ensures)
    c.row_of.ensures.vertex c.row_of.ensures.value c.row_of.ensures.parent c.row_of.ensures.moved in
    let more = drop_more few n pair (slice_get_within few n pair c.at-vertex.ensures) in
    let here : get_or few n pair ≡ pair = get_or_from_slice_get few n pair pair c.at-vertex.ensures in
    record {
      each = subst (λ (l : List DeltaRow). All (IsRowOf F (change_in few)) l) (sym c.in_ok-push.ensures.items)
          (All-push (IsRowOf F (change_in few)) c.loop-number.rows.items row c.loop-number.invariant.each made);
      keys = ap (λ (l : List DeltaRow). vertices_of l ++ keys_of (drop (n + 1) few)) c.in_ok-push.ensures.items
          ∙ keys_step c.loop-number.rows.items row (drop n few) (drop (n + 1) few) pair.1 (keys_of few)
          (more ∙ ap (λ (p : ℕ × Change). p ∷ drop (n + 1) few) here
          ∙ ap (λ (k : ℕ). (k, pair.1) ∷ drop (n + 1) few) (sym c.row_of.ensures.vertex)) c.loop-number.invariant.keys;
    }
