use Rattle.std.proofs.Common.{rules, ◌≡◌, Err, List, ap, refl, sym, ◌∙◌, length}
use Rattle.ris_base.specs.declared.analyses.Spec.{Spec}
use Rattle.ris_base.specs.declared.jobs.Job.TheVariants.{Demo, Replay}
use Rattle.ris_script.specs.Bytes.{script_of}
use Rattle.ris_script.specs.declared.faults.ScriptError.TheVariants as error
use Rattle.ris_text.proofs.Fields.{replies_printable}
use Rattle.ris_replay.proofs.JobFacts.{demo-few, demo-has_fit, demo-specs}
use Rattle.ris_replay.proofs.RunFacts.{text-of_job}
use Rattle.ris_replay.proofs.runs.text_of.Goals as goal

pub transcript_text-requires : goal.transcript_text-requires
transcript_text-requires g c =
    let replayed = (c.in_ok-played-in-Replay.ensures {u = tt}).replayed in
    replies_printable replayed.script.commands c.in_ok-played-in-Replay.played.logs replayed.answered.form

pub played-requires-in-Demo-clause-fit : goal.played-requires-in-Demo-clause-fit
played-requires-in-Demo-clause-fit g c κs within =
    demo-has_fit c.args.job.now c.in-Demo.seed c.in-Demo.size c.in-Demo.workers c.in_ok-specs-in-Demo.specs c.in-Demo.is (c.in_ok-specs-in-Demo.ensures {u = tt}) c.requires.fit

pub played-requires-in-Demo-clause-few : goal.played-requires-in-Demo-clause-few
played-requires-in-Demo-clause-few g c κs within =
    demo-few c.args.job.now c.in_ok-specs-in-Demo.specs c.args.bytes
    (demo-specs c.args.job.now c.in-Demo.seed c.in-Demo.size c.in-Demo.workers c.in_ok-specs-in-Demo.specs c.in-Demo.is (c.in_ok-specs-in-Demo.ensures {u = tt})) c.requires.few

pub returns-in_err-played-in-Demo-clause-fault : goal.returns-in_err-played-in-Demo-clause-fault
returns-in_err-played-in-Demo-clause-fault g c number cause e =
    let failed : c.played-in-Demo.result ≡ Err (error.Fault number cause) = search rules in
    ap (λ (ss : List Spec). script_of (length ss) c.args.bytes)
    (sym (demo-specs c.args.job.now c.in-Demo.seed c.in-Demo.size c.in-Demo.workers c.in_ok-specs-in-Demo.specs c.in-Demo.is (c.in_ok-specs-in-Demo.ensures {u = tt})))
    ∙ c.played-in-Demo.ensures.fault number cause failed

pub summary_text-requires : goal.summary_text-requires
summary_text-requires g c =
    let replayed = (c.in_ok-played-in-Demo.ensures {u = tt}).replayed in
    replies_printable replayed.script.commands c.in_ok-played-in-Demo.played.logs replayed.answered.form

pub returns-in_ok-transcript_text-in-Replay-clause-text : goal.returns-in_ok-transcript_text-in-Replay-clause-text
returns-in_ok-transcript_text-in-Replay-clause-text g c =
    let done = c.in_ok-played-in-Replay.ensures {u = tt} in
    let told = c.in_ok-transcript_text-in-Replay.ensures {u = tt} in
    text-of_job c.args.job.now (Replay c.in-Replay.threads c.in-Replay.workers c.in-Replay.specs) c.in-Replay.specs c.args.bytes
    c.in_ok-played-in-Replay.played.logs c.in_ok-played-in-Replay.played.lines c.in_ok-played-in-Replay.played.visits
    _ _ c.in-Replay.is refl done.replayed done.visits told.text told.small

pub returns-in_ok-summary_text-in-Demo-clause-text : goal.returns-in_ok-summary_text-in-Demo-clause-text
returns-in_ok-summary_text-in-Demo-clause-text g c =
    let done = c.in_ok-played-in-Demo.ensures {u = tt} in
    let told = c.in_ok-summary_text-in-Demo.ensures {u = tt} in
    text-of_job c.args.job.now (Demo c.in-Demo.seed c.in-Demo.size c.in-Demo.workers) c.in_ok-specs-in-Demo.specs c.args.bytes
    c.in_ok-played-in-Demo.played.logs c.in_ok-played-in-Demo.played.lines c.in_ok-played-in-Demo.played.visits
    _ _ c.in-Demo.is (c.in_ok-specs-in-Demo.ensures {u = tt} c.in-Demo.seed c.in-Demo.size c.in-Demo.workers) done.replayed done.visits told.text told.small
