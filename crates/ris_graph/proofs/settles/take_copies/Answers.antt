use Rattle.std.proofs.Common.{◌<◌, ◌∙◌, List, length, get_or, sym, ap, subst}
use Rattle.std.proofs.lemmas.List.{get_or_default}
use Rattle.ris_rows.specs.RowView.{RowView}
use Rattle.ris_graph.specs.Settling.{HasInRow, with_taken}
use Rattle.ris_graph.specs.StripeView.{no_job}
use Rattle.ris_graph.proofs.SettleLemmas.{CanTake-at, fold-at}
use Rattle.ris_graph.proofs.settles.take_copies.Goals as goal

pub take_copy-requires-clause-row : goal.take_copy-requires-clause-row
take_copy-requires-clause-row g c =
    let jobs = c.args.jobs.now in
    let i = c.loop-job.job-index in
    let j = get_or jobs i no_job in
    let lt : c.loop-job.job-index < length c.args.jobs.now = c.loop-job-test.true in
    subst (λ (ins : List RowView). HasInRow ins j.update) (sym c.loop-job.invariant) (CanTake-at c.args.ins.now jobs i j c.requires lt (get_or_default jobs i j no_job lt))

pub loop-job-preserved : goal.loop-job-preserved
loop-job-preserved g c =
    let jobs = c.args.jobs.now in
    let i = c.loop-job.job-index in
    let j = get_or jobs i no_job in
    let lt : c.loop-job.job-index < length c.args.jobs.now = c.loop-job-test.true in
    c.take_copy.ensures ∙ ap (λ (ins : List RowView). with_taken ins j) c.loop-job.invariant ∙ sym (fold-at with_taken c.args.ins.now jobs i j lt (get_or_default jobs i j no_job lt))
