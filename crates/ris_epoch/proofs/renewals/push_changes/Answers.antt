use Rattle.std.proofs.Common.{◌+◌, ◌≤◌, ◌++◌, List, drop, map, length, arith, ap, ◌∙◌, sym}
use Rattle.std.proofs.Math.ListN.{drop_of_length-le}
use Rattle.std.proofs.lemmas.List.{append-nil}
use Rattle.ris_base.specs.declared.records.Change.{Change}
use Rattle.ris_forest.specs.declared.deltas.DeltaRow.{DeltaRow}
use Rattle.ris_epoch.specs.Driving.{change_of}
use Rattle.ris_epoch.proofs.DeltaChanges.{row-next}
use Rattle.ris_epoch.proofs.renewals.push_changes.Goals as goal

pub loop-k-preserved : goal.loop-k-preserved
loop-k-preserved c =
    ap (λ (xs : List Change). xs ++ map (change_of c.args.a) (drop (c.loop-k.k + 1) c.args.delta.now)) c.in_ok-push.ensures.ok
    ∙ row-next c.args.a c.loop-k.changes c.args.delta.now c.loop-k.k c.at-row.result.now c.at-row.ensures ∙ c.loop-k.invariant

pub returns-clause-changes : goal.returns-clause-changes
returns-clause-changes c =
    let past : length c.args.delta.now ≤ c.loop-k.k = omega arith in
    sym (append-nil c.loop-k.changes) ∙ ap (λ (rows : List DeltaRow). c.loop-k.changes ++ map (change_of c.args.a) rows) (sym (drop_of_length-le c.args.delta.now past)) ∙ c.loop-k.invariant
