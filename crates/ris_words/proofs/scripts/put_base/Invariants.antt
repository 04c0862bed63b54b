use Rattle.std.proofs.Common.{◌≡◌, ◌++◌, drop, map}
use Rattle.ris_base.specs.Transcript.{text_of}
use Rattle.ris_words.specs.Made.{base_fields}
use Rattle.ris_words.proofs.scripts.put_base.Given as goal

-- the text so far, with the records that are left
abbrev pub invariant-loop-k : goal.invariant-loop-k
invariant-loop-k l = l.text.items ++ text_of (map base_fields (drop l.k l.base)) ≡ l.initial.text.items ++ text_of (map base_fields l.base)
