use Rattle.std.proofs.Common.{◌≡◌, [], length}
use Rattle.std.specs.List.{All}
use Rattle.ris_graph.specs.StripeView.{fresh}
use Rattle.ris_graph.proofs.outs.OutRows.new.Given as goal

abbrev pub invariant-loop : goal.invariant-loop
invariant-loop g l = (length l.stripes.items ≡ l.counter) × All (λ s. s ≡ fresh [] []) l.stripes.items
