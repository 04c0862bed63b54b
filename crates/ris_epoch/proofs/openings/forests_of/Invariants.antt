use Rattle.std.proofs.Common.{◌≡◌, map, take}
use Rattle.ris_base.specs.Forest.{forest_in}
use Rattle.ris_analysis.specs.Analyses.{forests_of}
use Rattle.ris_epoch.proofs.openings.forests_of.Given as goal

abbrev pub invariant-loop-a : goal.invariant-loop-a
invariant-loop-a l = map forest_in l.forests ≡ take l.a (forests_of l.analyses)
