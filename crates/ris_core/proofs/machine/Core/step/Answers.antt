use Rattle.ris_base.specs.Machine.{step_of}
use Rattle.ris_legal.proofs.Steps.{kept-legal}
use Rattle.ris_core.specs.Stands.{state_of}
use Rattle.ris_core.proofs.RunLemmas.{tried-kept}
use Rattle.ris_core.proofs.machine.Core.step.Goals as goal

pub invariant_of-self : goal.invariant_of-self
invariant_of-self g c = tried-kept c.self.inside.board (step_of c.args.event.now) c.step.new.self c.step.result c.step.ensures c.self.invariant

pub returns-clause-legal : goal.returns-clause-legal
returns-clause-legal g c =
    kept-legal (state_of c.step.new.self) (tried-kept c.self.inside.board (step_of c.args.event.now) c.step.new.self c.step.result c.step.ensures c.self.invariant)
