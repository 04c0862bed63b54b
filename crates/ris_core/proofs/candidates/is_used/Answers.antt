use Rattle.std.proofs.Common.{sym, ◌∙◌}
use Rattle.ris_base.specs.Forest.{forest_in}
use Rattle.ris_base.specs.Graph.{triple}
use Rattle.ris_base.specs.Safe.{uses}
use Rattle.ris_core.proofs.Scans.{any-here-mapped, any-passed-mapped}
use Rattle.ris_core.proofs.candidates.is_used.Goals as goal

pub returns-then-uses : goal.returns-then-uses
returns-then-uses c =
    sym (any-here-mapped forest_in (λ F. uses F (triple c.args.u c.args.v c.args.w)) c.args.tables.now c.loop-k.k c.at.result.now c.at.ensures (sym c.uses.ensures ∙ c.if-uses.true)) ∙ c.loop-k.invariant

pub loop-k-preserved : goal.loop-k-preserved
loop-k-preserved c =
    any-passed-mapped forest_in (λ F. uses F (triple c.args.u c.args.v c.args.w)) c.args.tables.now c.loop-k.k c.at.result.now c.at.ensures (sym c.uses.ensures ∙ c.if-uses.false) ∙ c.loop-k.invariant
