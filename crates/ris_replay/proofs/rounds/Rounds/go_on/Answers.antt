use Rattle.ris_replay.specs.RoundsView.{view_of}
use Rattle.ris_replay.proofs.RoundSteps.{alone-none, keeps-none, still-here, still-running}
use Rattle.ris_replay.proofs.rounds.Rounds.go_on.Goals as goal

pub steps-init : goal.steps-init
steps-init g c = record { keeps = keeps-none (view_of c.args.self.now); alone = alone-none c.args.n (view_of c.args.self.now) }

pub step-requires-clause-running : goal.step-requires-clause-running
step-requires-clause-running g c κs within = still-running (view_of c.args.self.now) (view_of c.steps.self) c.requires.running c.steps.invariant.keeps

pub step-requires-clause-here : goal.step-requires-clause-here
step-requires-clause-here g c κs within = still-here c.args.n (view_of c.args.self.now) (view_of c.steps.self) c.requires.here c.steps.invariant.alone
