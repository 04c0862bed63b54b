-- The stages before the push: the mark, the pull and the net.
use Rattle.std.proofs.Common.{sym, subst}
use Rattle.std.specs.List.{sum_by}
use Rattle.ris_base.specs.Requests.{entered}
use Rattle.ris_base.specs.declared.graphs.Format.{Format}
use Rattle.ris_repair.specs.Rows.{origin_count}
use Rattle.ris_repair.specs.Stores.{change_at}
use Rattle.ris_repair.proofs.AddLemmas.{added_in}
use Rattle.ris_repair.proofs.RepairLemmas.{pushed_from}
use Rattle.ris_repair.proofs.RiseLemmas.{rise_none}
use Rattle.ris_repair.proofs.repairs.begun.Goals as goal

pub pull_all-requires-clause-of : goal.pull_all-requires-clause-of
pull_all-requires-clause-of g c κs within = (let r = c.requires.due in (entered r.0 r.1, r.2.is))

pub add_all-requires : goal.add_all-requires
add_all-requires g c = (let r = c.requires.due in record { added = (entered r.0 r.1, r.2.is.proper, added_in r.0 r.1 c.args.net.now r.2.net) })

pub returns-in_err-frontier-clause-ticks : goal.returns-in_err-frontier-clause-ticks
returns-in_err-frontier-clause-ticks g c =
    rise_none (g.M.Meter.ticks c.args.meter.now) (sum_by (origin_count g.A.Monotone.BOTH_WAYS c.args.graph.now) c.args.fallen.now)

pub returns-clause-prepared : goal.returns-clause-prepared
returns-clause-prepared g c = λ p parts due.
    pushed_from c.args.graph.now (g.A.Monotone.spec c.args.forest.now.algo) c.args.forest.now.cells c.args.fallen.now c.args.net.now p parts (g.A.Monotone.start_of c.args.forest.now.algo)
    (change_at c.in_ok-frontier.frontier.changes) (change_at c.pull_all.new.self.changes) (change_at c.add_all.new.self.changes)
    c.in_ok-frontier.frontier.queue c.pull_all.new.self.queue c.add_all.new.self.queue due
    (λ x. (g.met.A.Monotone.of_table c.args.forest.now.algo).starts (entered p parts) x
    (subst (λ (f : Format). g.A.Monotone.suits c.args.forest.now.algo f) (sym due.is.format) c.requires.suits))
    c.in_ok-frontier.ensures c.in_ok-pull_all.ensures.queued
    (λ queue. c.in_ok-pull_all.ensures.kept p (entered p parts) c.args.fallen.now queue due.is)
    (c.in_ok-add_all.ensures.kept (entered p parts) c.args.fallen.now due.is.proper (added_in p parts c.args.net.now due.net))
