use Rattle.std.proofs.Common.{◌≡◌, ◌≤◌, ◌<◌, ℕ, [], length, get_or}
use Rattle.std.specs.List.{All}
use Rattle.ris_graph.specs.GraphView.{row_at}
use Rattle.ris_graph.specs.StripeView.{IsIdle}
use Rattle.ris_graph.proofs.TableLemmas.{rows_of}
use Rattle.ris_graph.proofs.outs.OutRows.grow.Given as goal

abbrev pub invariant-loop-k : goal.invariant-loop-k
invariant-loop-k g l = record {
  size : length l.self-inside.stripes.items ≡ 64;
  idle : All IsIdle l.self-inside.stripes.items;
  rows : (m k : ℕ) → row_at (get_or (rows_of l.self-inside.stripes.items) m []) k ≡ row_at (get_or (rows_of l.initial.self-inside.stripes.items) m []) k;
  longer : (m : ℕ) → length (get_or (rows_of l.initial.self-inside.stripes.items) m []) ≤ length (get_or (rows_of l.self-inside.stripes.items) m []);
  done : (m : ℕ) → m < l.k → l.places ≤ length (get_or (rows_of l.self-inside.stripes.items) m []);
}
