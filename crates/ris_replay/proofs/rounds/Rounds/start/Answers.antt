use Rattle.std.proofs.Common.{[], arith, subst}
use Rattle.ris_base.specs.Records.{AreRight}
use Rattle.ris_base.specs.declared.analyses.Spec.{Spec}
use Rattle.ris_base.specs.declared.graphs.PlainGraph.{PlainGraph}
use Rattle.ris_base.specs.declared.records.Start.{Start}
use Rattle.ris_history.specs.Standing as history
use Rattle.ris_replay.proofs.RoundStarts.{base-ends, base-weights, start-stands}
use Rattle.ris_replay.proofs.rounds.Rounds.start.Goals as goal
use Rattle.std.proofs.Common.{List}

pub start-requires-clause-ends : goal.start-requires-clause-ends
start-requires-clause-ends g c κs within = base-ends _ c.args.script c.requires.readable

pub start-requires-clause-weights : goal.start-requires-clause-weights
start-requires-clause-weights g c κs within = base-weights _ c.args.script c.requires.readable

pub start-requires-clause-few_sessions : goal.start-requires-clause-few_sessions
start-requires-clause-few_sessions g c κs within = let few = c.requires.readable.few in omega arith

pub players_of-requires : goal.players_of-requires
players_of-requires g c = let few = c.requires.readable.few in let all = c.requires.readable.lists in omega arith

pub returns-clause-stands : goal.returns-clause-stands
returns-clause-stands g c =
    start-stands c.args.script c.args.specs.now c.in_ok-driver.driver c.in_ok-history.history c.in_ok-players.players.items c.in_ok-queues.queues.items c.in_ok-batch.batch
    c.requires.readable (c.in_ok-driver.ensures {u = tt}).stands (c.in_ok-driver.ensures {u = tt}).sessions (c.in_ok-driver.ensures {u = tt}).idle.1
    (c.in_ok-driver.ensures {u = tt}).idle.2
    (subst (λ (s : Start). (o : PlainGraph) (ss : List Spec) → AreRight o ss s [] → history.StandsFor c.in_ok-history.history o ss s []) c.opening.ensures
    (c.in_ok-history.ensures {u = tt}).stands)
    c.in_ok-players.ensures c.in_ok-queues.ensures c.in_ok-batch.ensures
