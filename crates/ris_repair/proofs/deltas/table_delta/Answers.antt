-- One place more.
use Rattle.std.proofs.Common.{ℕ, ◌+◌, ◌<◌, List, None, get_or, arith, sym, subst, ◌∙◌}
use Rattle.std.specs.List.{All}
use Rattle.ris_forest.specs.Cells.{forest_of}
use Rattle.ris_forest.specs.declared.deltas.DeltaRow.{DeltaRow}
use Rattle.ris_repair.proofs.ListedLemmas.{AreListed, listed_past, listed_more, listed_all, change_within}
use Rattle.ris_repair.proofs.SortLemmas.{row_made}
use Rattle.ris_repair.proofs.deltas.table_delta.Goals as goal
use Rattle.ris_repair.proofs.deltas.table_delta.Goals.{in-Some+in_ok-push, in_default}

pub push-requires : goal.push-requires
push-requires g c = subst (λ (n : ℕ). All (λ r. r.vertex < n) c.loop-vertex.delta) (sym c.row_of.ensures.vertex) c.loop-vertex.invariant.below

pub loop-vertex-preserved : goal.loop-vertex-preserved
loop-vertex-preserved g c =
    let F = forest_of c.args.forest.now.cells in
    let table = c.args.changes.now in
    let n = c.loop-vertex.vertex in
    elim c.match-get.branch [
      | in-Some+in_ok-push w ↦
          let row = w.row_of.result in
          let made = row_made F (λ x. get_or table x None) row n w.in-Some.change (sym w.in-Some.ensures) w.row_of.ensures.vertex w.row_of.ensures.value w.row_of.ensures.parent w.row_of.ensures.moved in
          subst (λ (l : List DeltaRow). AreListed F (λ x. get_or table x None) (n + 1) l) (sym (w.delta-is ∙ w.in_ok-push.ensures.ok))
          (listed_more F (λ x. get_or table x None) n c.loop-vertex.delta c.loop-vertex.invariant row made w.row_of.ensures.vertex)
      | in_default w ↦
          subst (λ (l : List DeltaRow). AreListed F (λ x. get_or table x None) (n + 1) l) (sym w.delta-is)
          (listed_past F (λ x. get_or table x None) n c.loop-vertex.delta c.loop-vertex.invariant (sym c.get.ensures ∙ w.in_default.is))
    ]

pub returns : goal.returns
returns g c =
    let table = c.args.changes.now in
    listed_all (forest_of c.args.forest.now.cells) (λ x. get_or table x None) c.loop-vertex.vertex c.loop-vertex.delta c.loop-vertex.invariant
    (λ x change is.
    let within = change_within table x change is in
    let low = c.requires x change is in
    let done = c.loop-vertex-test.false in
    let size = c.min-size.ensures in
    omega arith)
