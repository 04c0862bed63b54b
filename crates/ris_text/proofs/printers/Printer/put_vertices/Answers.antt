use Rattle.std.proofs.Common.{arith}
use Rattle.ris_text.proofs.Growth.{adds_vertex}
use Rattle.ris_text.proofs.printers.Printer.put_vertices.Goals as goal

pub loop-k-preserved : goal.loop-k-preserved
loop-k-preserved c = λ final rest.
    c.loop-k.invariant final (adds_vertex c.args.vertices.now c.loop-k.k c.at.result.now _ _ final c.at.ensures (omega arith) c.in_ok-put_vertex.ensures rest)
