use Rattle.std.proofs.Common.{◌≡◌, ◌++◌, drop, map}
use Rattle.ris_words.proofs.words.texts_from.Given as goal

-- the words so far, with those that are left
abbrev pub invariant-loop-k : goal.invariant-loop-k
invariant-loop-k l = map (λ w. w.now) l.texts.items ++ drop l.k l.words ≡ drop l.first l.words
