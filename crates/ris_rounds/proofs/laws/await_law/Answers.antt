use Rattle.ris_rounds.specs.Rounds.{batch_of, commands_at, player_at, queue_at}
use Rattle.ris_rounds.proofs.Batches.{batch-has, fronts-batch}
use Rattle.ris_rounds.proofs.Sessions.{await-front}
use Rattle.ris_rounds.proofs.laws.await_law.Goals as goal

pub returns : goal.returns
returns c = λ ground lists run n played next.
    let front = await-front (commands_at lists n) n (player_at run n) (queue_at run n) (played.sessions n) next in
    let has = batch-has run.queues (batch_of run.queues) n front.0 (fronts-batch run.queues (λ m. (played.sessions m).own)) front.1 in
    (front.0, has.0, has.1)
