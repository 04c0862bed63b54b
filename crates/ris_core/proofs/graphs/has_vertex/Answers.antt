use Rattle.std.proofs.Common.{sym, ◌∙◌, eq-eqb}
use Rattle.std.proofs.lemmas.Bool.{ne_eqb}
use Rattle.ris_core.proofs.Scans.{any-here, any-passed}
use Rattle.ris_core.proofs.graphs.has_vertex.Goals as goal

pub returns-then-from-x : goal.returns-then-from-x
returns-then-from-x c =
    sym (any-here _ c.args.graph.now.vertices c.loop-k.k c.at.result.now c.at.ensures (eq-eqb c.at.result.now c.args.x (sym c.from.ensures ∙ c.if-from-x.true))) ∙ c.loop-k.invariant

pub loop-k-preserved : goal.loop-k-preserved
loop-k-preserved c =
    any-passed _ c.args.graph.now.vertices c.loop-k.k c.at.result.now c.at.ensures (ne_eqb c.at.result.now c.args.x (λ same. c.if-from-x.false (c.from.ensures ∙ same)))
    ∙ c.loop-k.invariant
