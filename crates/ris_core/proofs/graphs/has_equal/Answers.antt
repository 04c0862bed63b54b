use Rattle.std.proofs.Common.{sym, ◌∙◌}
use Rattle.ris_base.specs.Graph.{is_equal}
use Rattle.ris_core.proofs.Scans.{any-here, any-passed}
use Rattle.ris_core.proofs.graphs.has_equal.Goals as goal

pub returns-then-is_same : goal.returns-then-is_same
returns-then-is_same c =
    sym (any-here (is_equal c.args.t) c.args.graph.now.triples c.loop-k.k c.at.result.now c.at.ensures (sym c.is_same.ensures ∙ c.if-is_same.true)) ∙ c.loop-k.invariant

pub loop-k-preserved : goal.loop-k-preserved
loop-k-preserved c =
    any-passed (is_equal c.args.t) c.args.graph.now.triples c.loop-k.k c.at.result.now c.at.ensures (sym c.is_same.ensures ∙ c.if-is_same.false) ∙ c.loop-k.invariant
