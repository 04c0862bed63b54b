use Rattle.std.proofs.Common.{rules, ◌≡◌, ℕ, ap, sym, ◌∙◌, length}
use Rattle.ris_script.specs.Bytes.{script_of}
use Rattle.ris_replay.proofs.RunFacts.{script-readable}
use Rattle.ris_replay.proofs.runs.played.Goals as goal

pub replay_local-requires-clause-readable : goal.replay_local-requires-clause-readable
replay_local-requires-clause-readable g c κs within =
    let count : c.len.result ≡ length c.args.specs.now = search rules in
    script-readable (length c.args.specs.now) c.args.bytes c.in_ok-script.script
    (ap (λ (n : ℕ). script_of n c.args.bytes) (sym count) ∙ (c.in_ok-script.ensures {u = tt}))
