use Rattle.std.proofs.Common.{◌≡◌, ◌+◌, ◌&&◌, Bool, arith, subst, sym}
use Rattle.ris_replay.specs.RoundsView.{view_of}
use Rattle.ris_replay.proofs.RoundSteps.{HaveGone, gone-counts, gone-more, rested-all, still-running}
use Rattle.ris_replay.proofs.rounds.Rounds.go_on_all.Goals as goal
use Rattle.ris_replay.proofs.rounds.Rounds.go_on_all.Goals.{then-rests, else-rests}
use Rattle.std.proofs.Common.{ap, ◌∙◌}

pub go_on-requires-clause-running : goal.go_on-requires-clause-running
go_on-requires-clause-running g c κs within = still-running (view_of c.args.self.now) (view_of c.loop-n.self) c.requires.running c.loop-n.invariant.keeps

pub loop-n-preserved : goal.loop-n-preserved
loop-n-preserved g c =
    let more = gone-more c.loop-n.n c.loop-n.done c.in_ok-rests.rests (view_of c.args.self.now) (view_of c.loop-n.self) (view_of c.go_on.new.self) c.loop-n.invariant
    c.in_ok-rests.ensures.keeps c.in_ok-rests.ensures.alone c.in_ok-rests.ensures.rests in
    elim c.if-rests.branch [
      | then-rests w ↦ (let is : c.if-rests.done ≡ (c.in_ok-rests.rests && c.loop-n.done) = w.done-is ∙ ap (λ (b : Bool). b && c.loop-n.done) (sym w.if-rests.true) in
          subst (λ (b : Bool). HaveGone (c.loop-n.n + 1) b (view_of c.args.self.now) (view_of c.go_on.new.self)) (sym is) more)
      | else-rests w ↦ (let is : c.if-rests.done ≡ (c.in_ok-rests.rests && c.loop-n.done) = w.done-is ∙ w.if-rests.false ∙ ap (λ (b : Bool). b && c.loop-n.done) (sym w.if-rests.false) in
          subst (λ (b : Bool). HaveGone (c.loop-n.n + 1) b (view_of c.args.self.now) (view_of c.go_on.new.self)) (sym is) more)
    ]

pub returns-clause-rests : goal.returns-clause-rests
returns-clause-rests g c =
    let many = c.loop-n.invariant.many in
    let size = c.args.self.now.players.ok.0 in
    let end = c.len-n-end.ensures in
    let test = c.loop-n-test.false in
    let auto = c.loop-n.auto.n-end in
    rested-all c.loop-n.n c.loop-n.done (view_of c.loop-n.self) (omega arith) c.loop-n.invariant.rested

pub returns-clause-counts : goal.returns-clause-counts
returns-clause-counts g c = λ ticks. gone-counts c.loop-n.n c.loop-n.done (view_of c.args.self.now) (view_of c.loop-n.self) ticks c.loop-n.invariant
