use Rattle.std.proofs.Common.{◌≡◌, ◌<◌, ◌≤◌, ℕ, get_or}
use Rattle.ris_graph.specs.StripeView.{StripeView}
use Rattle.ris_phase.specs.Cells.{phased}
use Rattle.ris_phase.proofs.phases.decide_part.Given as goal

abbrev pub invariant-loop-stripe : goal.invariant-loop-stripe
invariant-loop-stripe g l = record {
  done : (k : ℕ) (d : StripeView) → k < l.stripe-index → get_or l.part k d ≡ phased (g.J.Judge.forests l.judge) (get_or l.fn.part k d);
  rest : (k : ℕ) (d : StripeView) → l.stripe-index ≤ k → get_or l.part k d ≡ get_or l.fn.part k d;
}
