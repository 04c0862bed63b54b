use Rattle.std.proofs.Common.{sym, refl}
use Rattle.ris_words.proofs.Reading.{replay-refused, replay-taken}
use Rattle.ris_words.proofs.words.read_replay.Goals as goal

pub returns-then-not-are_options-clause-usage : goal.returns-then-not-are_options-clause-usage
returns-then-not-are_options-clause-usage c =
    (λ usage. replay-refused c.args.words.now c.requires (sym c.if-not-are_options.ensures), λ none. refl)

pub returns-in_err-replay_of-clause-usage : goal.returns-in_err-replay_of-clause-usage
returns-in_err-replay_of-clause-usage c =
    (λ usage. let bad = rw usage at c.from_residual.ensures.1 in cc, λ none. absurd (replay-taken c.args.words.now c.requires (sym c.if-not-are_options.ensures) none))
