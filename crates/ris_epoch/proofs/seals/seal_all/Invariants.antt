use Rattle.std.proofs.Common.{◌≡◌, ℕ, ◌+◌, ◌≤◌, ◌++◌, length}
use Rattle.std.specs.List.{All}
use Rattle.std.specs.VecDeque.{deque_capacity, deque_len}
use Rattle.ris_base.specs.Lines.{front}
use Rattle.ris_base.specs.Records.{lines_of}
use Rattle.ris_base.specs.declared.events.Verdict.{Verdict}
use Rattle.ris_graph.specs.Jobs.{HasSession}
use Rattle.ris_epoch.specs.Driving.{all_resolved}
use Rattle.ris_epoch.specs.Sealing.{AreVerdicts, all_told, all_waiting, outcomes_if, records_if}
use Rattle.ris_epoch.proofs.seals.seal_all.Given as goal

abbrev pub invariant-seals : goal.invariant-seals
invariant-seals l = record {
  jobs : All (λ e. HasSession l.jobs e.session) l.candidates;
  line_room : length l.candidates ≤ l.journal.spare;
  few : front l.journal.lines + length l.candidates ≤ 4294967295;
  record_room : deque_len l.records + length l.candidates ≤ deque_capacity l.records;
  reply_room : deque_len l.replies + length l.candidates ≤ deque_capacity l.replies;
  wait_room : length l.rest + length l.candidates ≤ 64;
  lines : (verdicts : ℕ → Verdict) → AreVerdicts l.jobs verdicts
      → l.journal.lines ++ lines_of (records_if (all_told verdicts l.candidates)) ≡ l.fn.journal.lines ++ lines_of (records_if (all_told verdicts l.fn.candidates));
  records : (verdicts : ℕ → Verdict) → AreVerdicts l.jobs verdicts
      → l.records.items ++ records_if (all_told verdicts l.candidates) ≡ l.fn.records.items ++ records_if (all_told verdicts l.fn.candidates);
  replies : (verdicts : ℕ → Verdict) → AreVerdicts l.jobs verdicts
      → all_resolved l.replies.items ++ outcomes_if (front l.journal.lines) (all_told verdicts l.candidates)
      ≡ all_resolved l.fn.replies.items ++ outcomes_if (front l.fn.journal.lines) (all_told verdicts l.fn.candidates);
  rest : (verdicts : ℕ → Verdict) → AreVerdicts l.jobs verdicts → all_waiting l.rest (all_told verdicts l.candidates) ≡ all_waiting l.fn.rest (all_told verdicts l.fn.candidates);
  record_capacity : deque_capacity l.records ≡ deque_capacity l.fn.records;
  reply_capacity : deque_capacity l.replies ≡ deque_capacity l.fn.replies;
  counts : deque_len l.replies + length l.rest + length l.candidates ≡ deque_len l.fn.replies + length l.fn.rest + length l.fn.candidates;
  fronts : front l.journal.lines + length l.rest + length l.candidates ≤ front l.fn.journal.lines + length l.fn.rest + length l.fn.candidates;
}

abbrev pub decreases-seals : goal.decreases-seals
decreases-seals l = length l.candidates
