use Rattle.ris_replay.specs.RoundsView.{Counts, Keeps, unreplied_count, view_of}
use Rattle.ris_replay.specs.Visits.{Rises}
use Rattle.ris_replay.proofs.rounds.Rounds.play_all.Given as goal

abbrev pub invariant-rounds : goal.invariant-rounds
invariant-rounds g l = record {
  keeps : Keeps (view_of l.fn.self) (view_of l.self);
  counts : Counts (view_of l.fn.self) (view_of l.self) (g.M.Meter.ticks l.fn.meter) (g.M.Meter.ticks l.meter);
  rise : Rises (g.M.Meter.ticks l.fn.meter) (g.M.Meter.ticks l.meter);
}

abbrev pub decreases-rounds : goal.decreases-rounds
decreases-rounds g l = unreplied_count (view_of l.self)
