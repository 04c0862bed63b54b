-- One row more for the entry that was yielded.
use Rattle.std.proofs.Common.{◌∷◌, ◌++◌, ℕ, List, nat_eq, sym, subst, ap, ◌∙◌}
use Rattle.std.specs.Cmp.{nat_eq_equiv}
use Rattle.std.specs.HashMap.{get, keys}
use Rattle.std.specs.List.{All}
use Rattle.std.specs.Map.{keys_of}
use Rattle.std.specs.Map.Iter.{deref_pair}
use Rattle.std.proofs.lemmas.List.Elements.{All-push}
use Rattle.std.proofs.lemmas.Map.Iter.{hash_map_turn, rest_more}
use Rattle.ris_forest.specs.Cells.{forest_of}
use Rattle.ris_forest.specs.declared.deltas.DeltaRow.{DeltaRow}
use Rattle.ris_repair.specs.Stages.{IsRowOf}
use Rattle.ris_repair.proofs.SortLemmas.{keys_step, row_made, vertices_of}
use Rattle.ris_repair.proofs.deltas.rows_of.Goals as goal

pub loop-vertex-preserved : goal.loop-vertex-preserved
loop-vertex-preserved g c =
    let left = c.loop-vertex.vertex-iterator in
    let rest = c.next.new.self in
    let row = c.row_of.result in
    let F = forest_of c.args.forest.now.cells in
    let changes = get nat_eq c.args.changes.now in
    let turn = hash_map_turn deref_pair c.loop-vertex.yielded c.into_iter-vertex-iterator.result left rest c.next.result (c.in-Some.vertex, c.in-Some.change) c.loop-vertex.yielded_by
    c.in-Some.is c.next.ensures.steps nat_eq_equiv c.args.changes.now c.into_iter-vertex-iterator.ensures.into_iter_gives.0 c.len.ensures.unique in
    let more = rest_more deref_pair left rest c.next.result (c.in-Some.vertex, c.in-Some.change) c.in-Some.is c.next.ensures.steps in
    let made = row_made F changes row c.in-Some.vertex.now c.in-Some.change.now turn.1 c.row_of.ensures.vertex c.row_of.ensures.value c.row_of.ensures.parent c.row_of.ensures.moved in
    record {
      each = subst (λ (l : List DeltaRow). All (IsRowOf F changes) l) (sym c.in_ok-push.ensures.items)
          (All-push (IsRowOf F changes) c.loop-vertex.rows.items row c.loop-vertex.invariant.each made);
      keys = ap (λ (l : List DeltaRow). vertices_of l ++ keys_of rest) c.in_ok-push.ensures.items
          ∙ keys_step c.loop-vertex.rows.items row left rest c.in-Some.change.now (keys c.args.changes.now)
          (more ∙ ap (λ (k : ℕ). (k, c.in-Some.change.now) ∷ rest) (sym c.row_of.ensures.vertex)) c.loop-vertex.invariant.keys;
    }
