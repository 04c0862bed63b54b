use Rattle.std.proofs.Common.{◌≡◌, ◌<◌, ◌+◌, ◌∙◌, ◌∷◌, List, length, get_or, drop, arith, sym, ap}
use Rattle.std.proofs.lemmas.List.{drop_more}
use Rattle.std.proofs.lemmas.Option.{get_or_from_slice_get}
use Rattle.ris_forest.specs.Cells.{Cell}
use Rattle.ris_forest.specs.Commits.{committed}
use Rattle.ris_forest.specs.Linking.{cells_of}
use Rattle.ris_forest.specs.declared.deltas.DeltaRow.{DeltaRow}
use Rattle.ris_forest.proofs.nodes.overwrite.Goals as goal

pub loop-k-preserved : goal.loop-k-preserved
loop-k-preserved c =
    let rows = c.args.delta.now in
    let row = c.at.result.now in
    let within : c.loop-k.k < length c.args.delta.now = omega arith in
    let is : get_or rows c.loop-k.k row ≡ row = get_or_from_slice_get rows c.loop-k.k row row c.at.ensures in
    let next : drop c.loop-k.k rows ≡ row ∷ drop (c.loop-k.k + 1) rows = drop_more rows c.loop-k.k row within ∙ ap (λ (r : DeltaRow). r ∷ drop (c.loop-k.k + 1) rows) is in
    record {
      cells = ap (λ (l : List Cell). committed l (drop (c.loop-k.k + 1) rows)) c.place.ensures.cells
          ∙ ap (λ (l : List DeltaRow). committed (cells_of c.loop-k.nodes) l) (sym next) ∙ c.loop-k.invariant.cells;
      linked = c.place.ensures.linked;
    }
