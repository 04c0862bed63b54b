use Rattle.ris_rounds.specs.Rounds.{batch_of}
use Rattle.ris_rounds.proofs.Batches.{batch-there, fronts-batch}
use Rattle.ris_rounds.proofs.Counts.{few-lines}
use Rattle.ris_rounds.proofs.laws.batch_law.Goals as goal

pub returns : goal.returns
returns c = λ ground lists run played.
    let is = fronts-batch run.queues (λ n. (played.sessions n).own) in
    (is, batch-there run.queues (batch_of run.queues) ground.start.sessions is played.queues, few-lines ground lists run played)
