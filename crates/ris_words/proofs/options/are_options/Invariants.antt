use Rattle.std.proofs.Common.{◌≡◌, drop, None}
use Rattle.ris_words.specs.Tokens.{accepts, none_seen}
use Rattle.ris_words.proofs.options.are_options.Given as goal

-- the words that are left are taken where all are
abbrev pub invariant-loop-k : goal.invariant-loop-k
invariant-loop-k l = accepts l.verb l.seen l.waiting (drop l.k l.words) ≡ accepts l.verb none_seen None (drop l.first l.words)
