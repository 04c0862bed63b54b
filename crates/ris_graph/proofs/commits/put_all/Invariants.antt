use Rattle.std.proofs.Common.{◌≡◌, ℕ, length, take}
use Rattle.ris_graph.specs.GraphView.{row_at}
use Rattle.ris_graph.specs.Putting.{ArePut, source_of, target_of}
use Rattle.ris_graph.specs.Tables.{row_of, HasRow}
use Rattle.ris_graph.proofs.commits.put_all.Given as goal

abbrev pub invariant-loop-k : goal.invariant-loop-k
invariant-loop-k g l = record {
  outs : ArePut source_of target_of l.forward (row_of l.initial.outs) (row_of l.outs) (take l.k l.triples);
  ins : ArePut target_of source_of l.forward (row_at l.initial.ins) (row_at l.ins) (take l.k l.triples);
  stripes : length l.outs ≡ length l.initial.outs;
  has_rows : (u : ℕ) → HasRow l.initial.outs u → HasRow l.outs u;
  places : length l.ins ≡ length l.initial.ins;
}
