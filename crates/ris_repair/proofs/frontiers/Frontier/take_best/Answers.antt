-- The best vertex that waits is taken; older items are let go. Without memory the same vertices wait.
use Rattle.std.proofs.Common.{◌≡◌, ℕ, Option, sym, subst, ap, ◌∙◌}
use Rattle.ris_repair.specs.Changes.{AreQueued, IsNext}
use Rattle.ris_repair.specs.Stores.{change_at}
use Rattle.ris_repair.specs.declared.stores.Change.{Change}
use Rattle.ris_repair.proofs.FoundLemmas.{on_err}
use Rattle.ris_repair.proofs.OfferLemmas.{same_changes}
use Rattle.ris_repair.proofs.QueueLemmas.{queued_moved}
use Rattle.ris_repair.proofs.TakeLemmas.{queued-without, queued-settled, next-from, same_at}
use Rattle.ris_repair.proofs.frontiers.Frontier.take_best.Goals as goal

pub returns-in-Some-take-clause-queued : goal.returns-in-Some-take-clause-queued
returns-in-Some-take-clause-queued g c =
    queued-settled (g.A.Monotone.spec c.args.forest.now.algo).kind (change_at c.loop-best.self.changes) (change_at c.take.new.self) c.loop-best.self.queue c.pop.new.self c.in-Some.best c.in-Some.vertex
    c.loop-best.invariant.0 (rw c.in-Some.is at c.in_ok-best.ensures.items) (record { here = c.in-Some-take.ensures.taken.settled; others = c.take.ensures.others })

pub returns-in-Some-take-clause-next : goal.returns-in-Some-take-clause-next
returns-in-Some-take-clause-next g c =
    subst (λ (f : ℕ → Option Change). IsNext (g.A.Monotone.spec c.args.forest.now.algo).kind f c.in-Some.vertex c.in-Some-take.number (change_at c.take.new.self)) c.loop-best.invariant.1
    (next-from (g.A.Monotone.spec c.args.forest.now.algo).kind (change_at c.loop-best.self.changes) (change_at c.take.new.self) c.loop-best.self.queue c.pop.new.self c.in-Some.best c.in-Some.vertex
    c.in-Some-take.number c.loop-best.invariant.0 (rw c.in-Some.is at c.in_ok-best.ensures.items) (record { here = c.in-Some-take.ensures.taken.settled; others = c.take.ensures.others }) (rw c.in-Some.is at c.in_ok-best.ensures.best)
    c.in-Some-take.ensures.taken.was (rw c.algo.ensures.algo at c.in-Some-take.ensures.taken.rank))

pub loop-best-preserved : goal.loop-best-preserved
loop-best-preserved g c =
    let kind = (g.A.Monotone.spec c.args.forest.now.algo).kind in
    let old = change_at c.loop-best.self.changes in
    let new = change_at c.take.new.self in
    let same = same_changes old new (same_at old new c.in-Some.vertex c.in_default-take.ensures.same c.take.ensures.others) in (
      subst (λ (f : ℕ → Option Change). AreQueued kind f c.pop.new.self) same
          (queued-without kind old c.loop-best.self.queue c.pop.new.self c.in-Some.best c.in-Some.vertex c.loop-best.invariant.0 (rw c.in-Some.is at c.in_ok-best.ensures.items)
          (rw c.algo.ensures.algo at c.in_default-take.ensures.none)),
      sym same ∙ c.loop-best.invariant.1,
    )

pub returns-clause-same : goal.returns-clause-same
returns-clause-same g c = λ x. ap (λ (f : ℕ → Option Change). f x) c.loop-best.invariant.1

pub returns-in_err-best-clause-queued : goal.returns-in_err-best-clause-queued
returns-in_err-best-clause-queued g c =
    queued_moved (g.A.Monotone.spec c.args.forest.now.algo).kind (change_at c.loop-best.self.changes) c.loop-best.self.queue c.pop.new.self
    c.in_err-best.ensures.unchanged c.loop-best.invariant.0

pub returns-in_err-best-clause-unchanged : goal.returns-in_err-best-clause-unchanged
returns-in_err-best-clause-unchanged g c =
    on_err c.from_residual.result ((x : ℕ) → change_at c.loop-best.self.changes x ≡ change_at c.args.self.now.changes x)
    (λ x. ap (λ (f : ℕ → Option Change). f x) c.loop-best.invariant.1)
