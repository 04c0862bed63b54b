use Rattle.std.proofs.Common.{Ok, sym, ap, ◌∙◌}
use Rattle.ris_base.specs.declared.graphs.PlainGraph.{PlainGraph}
use Rattle.ris_base.proofs.EffectLemmas.{does-changed}
use Rattle.ris_four.specs.Working.{plain_of}
use Rattle.ris_four.proofs.EffectLemmas.{no-objection}
use Rattle.ris_four.proofs.effects.Working.enter.Goals as goal

-- src/effects.rt:190:5
pub returns-in-Ok-clause-ok : goal.returns-in-Ok-clause-ok
returns-in-Ok-clause-ok c =
    does-changed (plain_of c.args.self.now) c.args.update
    (no-objection c.args.front c.args.part (plain_of c.args.self.now) c.args.update (sym (c.in_default.ensures)))
    ∙ sym (ap (λ (g : PlainGraph). Ok g) (c.in-Ok.ensures))
