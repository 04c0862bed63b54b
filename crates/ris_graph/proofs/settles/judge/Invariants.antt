use Rattle.std.proofs.Common.{◌≡◌, ◌<◌, ◌≤◌, ℕ, length, get_or, vec_capacity}
use Rattle.ris_graph.specs.Settling.{judged}
use Rattle.ris_graph.specs.StripeView.{no_job}
use Rattle.ris_graph.proofs.settles.judge.Given as goal

abbrev pub invariant-loop-k : goal.invariant-loop-k
invariant-loop-k l = record {
  size : length l.jobs.items ≡ length l.fn.jobs.items;
  end : l.k-end ≡ length l.fn.jobs.items;
  capacity : vec_capacity l.jobs ≡ vec_capacity l.fn.jobs;
  done : (i : ℕ) → i < l.k → get_or l.jobs.items i no_job ≡ judged l.verdicts (get_or l.fn.jobs.items i no_job);
  rest : (i : ℕ) → l.k ≤ i → get_or l.jobs.items i no_job ≡ get_or l.fn.jobs.items i no_job;
}
