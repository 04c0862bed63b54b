use Rattle.std.proofs.Common.{ap, length, ◌∙◌}
use Rattle.ris_graph.specs.Putting.{count_to}
use Rattle.ris_graph.proofs.RowChanges.{IsPut-outs}
use Rattle.ris_graph.proofs.TableLemmas.{length-with_row, HasRow-with_row}
use Rattle.ris_graph.proofs.commits.put.Goals as goal

pub returns-then-net-clause-outs : goal.returns-then-net-clause-outs
returns-then-net-clause-outs g c =
    let n = c.args.net.now in
    let t = n.triple in
    record {
      changed = λ _. rw (c.put.ensures, c.copies_to-copies.ensures) (IsPut-outs c.args.outs.now t.source t.target t.weight (count_to c.args.forward n) (c.requires.rows.out c.if-net.true));
      kept = λ same. absurd (c.if-net.true same);
    }

pub returns-then-net-clause-stripes : goal.returns-then-net-clause-stripes
returns-then-net-clause-stripes g c = ap length c.put.ensures ∙ length-with_row c.args.outs.now c.args.net.now.triple.source _

pub returns-then-net-clause-has_rows : goal.returns-then-net-clause-has_rows
returns-then-net-clause-has_rows g c u has = rw c.put.ensures (HasRow-with_row c.args.outs.now c.args.net.now.triple.source u _ has)
