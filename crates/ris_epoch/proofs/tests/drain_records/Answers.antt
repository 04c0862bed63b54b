use Rattle.std.proofs.Common.{◌∙◌}
use Rattle.ris_epoch.proofs.tests.drain_records.Goals as goal

pub records-preserved : goal.records-preserved
records-preserved c = record {
  opening = c.fresh.ensures.opening ∙ c.records.invariant.opening;
  journal = c.fresh.ensures.journal ∙ c.records.invariant.journal;
}
