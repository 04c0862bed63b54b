use Rattle.std.proofs.Common.{◌∙◌, map, arith, sym}
use Rattle.std.proofs.lemmas.List.{ext_get_or, get_or-map, length-map}
use Rattle.ris_graph.specs.Settling.{judged}
use Rattle.ris_graph.specs.StripeView.{no_job}
use Rattle.ris_graph.proofs.settles.judge.Goals as goal

pub returns-clause-jobs : goal.returns-clause-jobs
returns-clause-jobs c =
    let now = c.loop-k.jobs.items in
    let old = c.args.jobs.now.items in
    let f = judged c.args.verdicts.now in
    let size = c.loop-k.invariant.size in
    let end = c.loop-k.invariant.end in
    let test = c.loop-k-test.false in
    ext_get_or no_job now (map f old) (size ∙ sym (length-map old f)) (λ i lt.
    c.loop-k.invariant.done i (omega arith) ∙ sym (get_or-map f old i no_job no_job (omega arith)))
