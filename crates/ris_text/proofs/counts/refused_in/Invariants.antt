use Rattle.std.proofs.Common.{◌≡◌, ◌≤◌, ◌+◌, count_by, drop}
use Rattle.ris_base.specs.Replies.{is_refused}
use Rattle.ris_text.proofs.counts.refused_in.Given as goal

abbrev pub invariant-loop-seq : goal.invariant-loop-seq
invariant-loop-seq l = record {
  total : l.refused + count_by is_refused (drop l.seq l.log) ≡ count_by is_refused l.log;
  few : l.refused ≤ l.seq;
}
