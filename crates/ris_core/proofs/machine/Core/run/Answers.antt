use Rattle.std.proofs.Common.{ℕ, Bool, Ok, ◌+◌, ◌<◌, List, arith, length, map, subst, sym, take}
use Rattle.ris_base.specs.Machine.{Step, step_of}
use Rattle.ris_legal.proofs.Steps.{kept-legal}
use Rattle.ris_legal.specs.Held.{IsKept}
use Rattle.ris_core.specs.Runs.{AreTried}
use Rattle.ris_core.specs.Stands.{IsTried, Listing, state_of}
use Rattle.ris_core.proofs.RunLemmas.{take-map, tried-happens, tried-kept, tried-none, tried-stays}
use Rattle.ris_core.proofs.Scans.{mapped-next}
use Rattle.ris_core.proofs.TailMoves.{map-length}
use Rattle.ris_core.proofs.machine.Core.run.Goals.{else-done, then-done}
use Rattle.ris_core.proofs.machine.Core.run.Goals as goal

pub loop-k-init : goal.loop-k-init
loop-k-init g c = (tried-none c.args.self.now c.self.inside.board c.self.view_is, c.self.invariant, omega arith)

pub returns-in_default-clause-ran : goal.returns-in_default-clause-ran
returns-in_default-clause-ran g c =
    let k = c.loop-k.k in
    let less : k < length (map step_of c.args.events.now) = (let m = map-length step_of c.args.events.now in let e = c.len-k-end.ensures in let t = c.loop-k-test.true in omega arith) in (
      k,
      c.loop-k.happened,
      less,
      subst (λ (steps : List Step). AreTried c.args.self.now steps c.step.new.self c.loop-k.happened) (sym (take-map step_of k c.args.events.now))
          (subst (λ (l : Listing). AreTried c.args.self.now (map step_of (take k c.args.events.now)) l c.loop-k.happened) (sym c.in_default.ensures) c.loop-k.invariant.0),
    )

pub returns-in_default-clause-legal : goal.returns-in_default-clause-legal
returns-in_default-clause-legal g c = kept-legal (state_of c.step.new.self) (subst (λ (l : Listing). IsKept (state_of l)) (sym c.in_default.ensures) c.loop-k.invariant.1)

pub loop-k-preserved : goal.loop-k-preserved
loop-k-preserved g c =
    let k = c.loop-k.k in
    let e = step_of c.at.result.now in
    let old = c.loop-k.self-inside.board in
    let steps = map step_of (take k c.args.events.now) in
    let next = sym (mapped-next step_of c.args.events.now k c.at.result.now c.at.ensures) in
    let kept = tried-kept old e c.step.new.self c.step.result c.step.ensures c.loop-k.invariant.1 in
    let low = c.loop-k.invariant.2 in
    elim c.if-done.branch [
      | then-done w ↦
          (let happens = subst (λ (b : Bool). IsTried old e c.step.new.self (Ok b)) w.if-done.true c.in-Ok.ensures in
          let count = w.happened-is in (
            subst (λ (n : ℕ). AreTried c.args.self.now (map step_of (take (k + 1) c.args.events.now)) c.step.new.self n) (sym count)
                (subst (λ (ss : List Step). AreTried c.args.self.now ss c.step.new.self (c.loop-k.happened + 1)) next
                (tried-happens c.args.self.now old c.step.new.self steps e c.loop-k.happened c.loop-k.invariant.0 happens)),
            kept,
            omega arith,
          ))
      | else-done w ↦
          (let stays = subst (λ (b : Bool). IsTried old e c.step.new.self (Ok b)) w.if-done.false c.in-Ok.ensures in
          let count = w.happened-is in (
            subst (λ (n : ℕ). AreTried c.args.self.now (map step_of (take (k + 1) c.args.events.now)) c.step.new.self n) (sym count)
                (subst (λ (ss : List Step). AreTried c.args.self.now ss c.step.new.self c.loop-k.happened) next
                (tried-stays c.args.self.now old c.step.new.self steps e c.loop-k.happened c.loop-k.invariant.0 stays.0 stays.1)),
            kept,
            omega arith,
          ))
    ]

pub returns-clause-legal : goal.returns-clause-legal
returns-clause-legal g c = kept-legal (state_of c.loop-k.self-inside.board) c.loop-k.invariant.1
