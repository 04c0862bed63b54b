use Rattle.ris_replay.specs.RoundsView.{view_of}
use Rattle.ris_replay.proofs.MeterRises.{rises-none, rises-twice}
use Rattle.ris_replay.proofs.RoundSteps.{counts-none, counts-twice, keeps-none, keeps-twice}
use Rattle.ris_replay.proofs.rounds.Rounds.play_all.Goals as goal

pub rounds-init : goal.rounds-init
rounds-init g c = record {
  keeps = keeps-none (view_of c.args.self.now);
  counts = counts-none (view_of c.args.self.now) (g.M.Meter.ticks c.args.meter.now);
  rise = rises-none (g.M.Meter.ticks c.args.meter.now);
}

pub rounds-preserved : goal.rounds-preserved
rounds-preserved g c =
    let first = g.M.Meter.ticks c.args.meter.now in
    let before = g.M.Meter.ticks c.rounds.meter in
    let after = g.M.Meter.ticks c.turn.new.meter in
    let gone = keeps-twice (view_of c.args.self.now) (view_of c.rounds.self) (view_of c.go_on_all.new.self) c.rounds.invariant.keeps c.in_ok-go_on_all.ensures.keeps in
    record {
      keeps = keeps-twice (view_of c.args.self.now) (view_of c.go_on_all.new.self) (view_of c.turn.new.self) gone c.in_ok-turn.ensures.keeps;
      counts = counts-twice (view_of c.args.self.now) (view_of c.go_on_all.new.self) (view_of c.turn.new.self) first before after gone
          (counts-twice (view_of c.args.self.now) (view_of c.rounds.self) (view_of c.go_on_all.new.self) first before before c.rounds.invariant.keeps
          c.rounds.invariant.counts (c.in_ok-go_on_all.ensures.counts before))
          c.in_ok-turn.ensures.counts;
      rise = rises-twice first before after c.rounds.invariant.rise c.turn.ensures.rise;
    }

pub returns-then-branch-clause-counts : goal.returns-then-branch-clause-counts
returns-then-branch-clause-counts g c =
    let first = g.M.Meter.ticks c.args.meter.now in
    let before = g.M.Meter.ticks c.rounds.meter in
    counts-twice (view_of c.args.self.now) (view_of c.rounds.self) (view_of c.go_on_all.new.self) first before before c.rounds.invariant.keeps
    c.rounds.invariant.counts (c.in_ok-go_on_all.ensures.counts before)
