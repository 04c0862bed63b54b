-- The vertex waits where it has a number.
use Rattle.ris_repair.specs.Stores.{change_at}
use Rattle.ris_repair.proofs.QueueLemmas.{put_number, put_none, idle_without}
use Rattle.ris_repair.proofs.frontiers.Frontier.put.Goals as goal

pub returns-in_ok-push-clause-queued : goal.returns-in_ok-push-clause-queued
returns-in_ok-push-clause-queued g c = λ xs before.
    put_number (g.A.Monotone.spec c.args.forest.now.algo).kind (change_at c.args.self.now.changes) (change_at c.insert.new.self) c.args.vertex xs c.in_ok-insert.ensures.others
    c.args.self.now.queue c.push.new.self c.args.change c.in-Num.number c.priority.result c.in_ok-insert.ensures.here c.in-Num.is
    (rw c.algo.ensures.algo at c.priority.ensures) c.in_ok-push.ensures.items before

pub returns-in_default-clause-queued : goal.returns-in_default-clause-queued
returns-in_default-clause-queued g c = λ xs before.
    put_none (g.A.Monotone.spec c.args.forest.now.algo).kind (change_at c.args.self.now.changes) (change_at c.insert.new.self) c.args.vertex xs c.in_ok-insert.ensures.others
    c.args.self.now.queue (idle_without (change_at c.insert.new.self c.args.vertex) c.args.change c.in_ok-insert.ensures.here c.in_default.not-Num) before
